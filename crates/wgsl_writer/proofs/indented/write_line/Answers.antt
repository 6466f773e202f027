use Rattle.std.proofs.Common.{refl, sym, ap, ◌∙◌, arith, ℕ, ◌+◌, List, ◌++◌, take}
use Rattle.std.proofs.lemmas.List.{take-append-drop}
use Rattle.std.proofs.lemmas.Str.{IsCharBoundary-after_ascii}
use Rattle.std.proofs.Output.{has_written_of_eq}
use Rattle.wgsl_writer.specs.Depth.{spaces}
use Rattle.wgsl_writer.proofs.Indents.{after_line, front_range, line_then_end}
use Rattle.wgsl_writer.proofs.Through.{wrote_append, wrote_of_eq}
use Rattle.wgsl_writer.proofs.indented.write_line.Goals as goal

pub range_from-requires : goal.range_from-requires
range_from-requires g c = λ _. IsCharBoundary-after_ascii c.args.text.now c.args.end c.utf8.text
    c.requires.0 (omega (arith, c.requires.1))

pub returns : goal.returns
returns g c =
    let took = g.W.Write.write_str_gives in
    let text = c.args.text.now in
    let gap = spaces c.args.out.now.depth in (
      sym (take-append-drop (c.args.end + 1) text)
          ∙ ap (λ (z : List ℕ). take (c.args.end + 1) text ++ z) (sym c.range_from.ensures.value),
      wrote_of_eq took _ _ _ _ (line_then_end text c.args.end c.requires)
          (wrote_append took _ _ _ _ _ (record {
            depth = refl;
            lent = refl;
            written = λ plain. has_written_of_eq _ _ _ _ _ (c.range.ensures.value
                ∙ front_range text c.args.end ∙ sym (after_line gap text c.args.end c.requires))
                (c.in_ok-write_str.ensures.writes plain refl);
          }) (c.in_ok-write_line_end.ensures refl)),
    )
