use Rattle.std.proofs.Common.{rules, ◌≡◌, refl, ◌==◌, true≢false, false, codes, List, [], ◌∷◌, ◌++◌, length, map}
use Rattle.std.proofs.Output.{has_written_append, has_written_of_eq}
use Rattle.wgsl_model.specs.Printed.Joining.{joined}
use Rattle.wgsl_model.specs.Printed.Units.{print_directive, print_directives}
use Rattle.wgsl_writer.proofs.Joins.{displays_joined}
use Rattle.wgsl_tree_unit.specs.declared.directive.GlobalDirective.{GlobalDirective}
use Rattle.wgsl_tree_unit.specs.View.{global_directive_view}
use Rattle.wgsl_tree_unit.proofs.unit.write_directives.Goals as goal

some_directives : (ds : List GlobalDirective) → (length ds == 0) ≡ false
    → joined (codes "\n") (map print_directive (map global_directive_view ds)) ++ codes "\n\n"
    ≡ print_directives (map global_directive_view ds)
some_directives [] e = absurd (true≢false e)
some_directives (d ∷ ds) e = refl

pub returns : goal.returns
returns g c = λ plain ok.
    let directives = c.args.directives.now in
    let lines = displays_joined global_directive_view print_directive
    (codes "\n") g.W.Write.write_str_gives directives directives refl _ _ _ c.write_joined.ensures in
    let one = lines plain (search rules) in
    let two = c.write_str.ensures.writes one.plain ok in
    has_written_of_eq _ _ _ _ _ (some_directives directives (search rules)) (has_written_append _ _ _ _ _ _ one two)
