use Rattle.std.proofs.Common.{rules, sym, ap, ◌∙◌, refl, List, ℕ, ◌+◌, ◌++◌, take}
use Rattle.std.proofs.lemmas.List.{append_assoc}
use Rattle.std.proofs.Output.{has_written_of_eq}
use Rattle.wgsl_writer.specs.Depth.{spaces}
use Rattle.wgsl_writer.proofs.Indents.{after_none}
use Rattle.wgsl_writer.proofs.Through.{wrote_append, wrote_of_eq}
use Rattle.wgsl_writer.proofs.indented.write_lines.Goals as goal

pub lines-preserved : goal.lines-preserved
lines-preserved g c =
    let done = c.lines.invariant.1 in
    let line = take (c.in-Some.at + 1) c.lines.left.now in
    let step = c.in_ok-left-2.ensures in (
      search rules,
      done ++ line,
      c.lines.invariant.2 ∙ ap (λ (z : List ℕ). done ++ z) step.0
          ∙ sym (append_assoc done line c.in_ok-left-2.left.now),
      wrote_append _ _ _ _ _ _ c.lines.invariant.3 step.1,
    )

pub returns : goal.returns
returns g c = λ ok.
    let took = g.W.Write.write_str_gives in
    let left = c.lines.left.now in
    wrote_of_eq took _ _ _ _ (sym c.lines.invariant.2)
    (wrote_append took _ _ c.lines.out left _ c.lines.invariant.3 (record {
      depth = refl;
      lent = refl;
      written = λ plain. has_written_of_eq _ _ _ _ _ (sym (after_none (spaces c.lines.out.depth)
          left c.in_default.ensures)) (c.write_str.ensures.writes plain ok);
    }))
