use Rattle.std.proofs.Common.{refl, sym, ap, ℕ, List, Option}
use Rattle.std.specs.Option.{option_map}
use Rattle.wgsl_model.specs.Printed.Declarations.{print_attributed, print_break_if}
use Rattle.wgsl_model.specs.Printed.Statements.{break_if_line}
use Rattle.wgsl_writer.proofs.Through.{wrote_nothing, wrote_of_eq}
use Rattle.wgsl_writer.proofs.Within.{begun_filled, wrote_within}
use Rattle.wgsl_tree_simple.specs.declared.break_if.BreakIfStatement.{BreakIfStatement}
use Rattle.wgsl_tree_simple.specs.View.{break_if_view}
use Rattle.wgsl_tree_simple.proofs.Pieces.{break_if_filled}
use Rattle.wgsl_tree_simple.proofs.Writes.{◌▸◌}
use Rattle.wgsl_tree_simple.proofs.parts.write_break_if.Goals as goal

-- `break if`, if it is there
abbrev text : Option BreakIfStatement → List ℕ
text o = break_if_line (option_map break_if_view o)

pub returns-in-None : goal.returns-in-None
returns-in-None g c =
    λ ok. wrote_of_eq _ _ _ _ _ (sym (ap text c.in-None.is)) (wrote_nothing g.W.Write.write_str_gives _)

pub returns-in_ok-write_value-in-Some : goal.returns-in_ok-write_value-in-Some
returns-in_ok-write_value-in-Some g c = λ ok.
    let took = g.W.Write.write_str_gives in
    let b = break_if_view c.in-Some.statement in
    let line = print_attributed print_break_if b in
    wrote_of_eq _ _ _ _ _ (sym (ap text c.in-Some.is))
    (wrote_within took _ _ _ _ line (c.in_ok-indent-in-Some.ensures refl)
    (wrote_of_eq _ _ _ _ _ (begun_filled line (break_if_filled b))
    (c.in_ok-write_piece-in-Some.ensures refl ▸ c.in_ok-write_value-in-Some.ensures refl))
    c.unindent.ensures
    ▸ c.write_line_end.ensures ok)
