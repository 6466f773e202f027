use Rattle.std.proofs.Common.{◌≡◌, refl, ap, ◌∙◌, arith, ℕ, suc, ◌-◌, ◌≤◌, ◌++◌, codes}
use Rattle.std.proofs.lemmas.List.{append_assoc}
use Rattle.std.proofs.Output.{has_written_append, has_written_of_eq}
use Rattle.wgsl_writer.specs.Depth.{spaces}
use Rattle.wgsl_writer.proofs.indented.+write_spaces.Goals as goal

four_more : (levels : ℕ) → spaces levels ++ codes "                " ≡ spaces (suc (suc (suc (suc levels))))
four_more levels = simp append_assoc

four_levels : (levels : ℕ) → 4 ≤ levels → spaces (levels - 4) ++ codes "                " ≡ spaces levels
four_levels levels h =
    let e : suc (suc (suc (suc (levels - 4)))) ≡ levels = omega (arith, h) in four_more (levels - 4)
    ∙ ap spaces e

pub returns : goal.returns
returns g t c = λ plain ok.
    let one = c.in_ok-write_spaces.ensures plain refl in
    has_written_of_eq _ _ _ _ _ (four_levels c.args.levels c.if-levels-lt4.false)
    (has_written_append _ _ _ _ _ _ one (c.write_str.ensures.writes one.plain ok))
