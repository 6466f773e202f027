use Rattle.std.proofs.Common.{rules, sym, ap, ◌++◌, ◌∙◌, codes}
use Rattle.std.proofs.Output.{has_written_append, has_written_of_eq}
use Rattle.std.specs.Char.{encode_utf8}
use Rattle.wgsl_model_packed.specs.Json.{escaped}
use Rattle.wgsl_name_map.proofs.Texts.{plain_text, further, at_end}
use Rattle.wgsl_name_map.proofs.text.write_text.Goals as goal

pub returns-then-is_plain : goal.returns-then-is_plain
returns-then-is_plain g c = λ plain ok.
    has_written_of_eq _ _ _ _ _ (ap (λ u. codes "\"" ++ u ++ codes "\"")
    (sym (plain_text c.args.text.now (search rules)))) (c.write_plain.ensures plain ok)

pub text-init : goal.text-init
text-init g c = λ plain. (codes "\"", search rules, search rules)

pub text-preserved : goal.text-preserved
text-preserved g c = λ plain.
    let so_far = c.text.invariant plain in
    let more = c.write_character.ensures so_far.1.plain (search rules) in (
      so_far.0 ++ escaped (encode_utf8 c.in-Some.c),
      has_written_append _ _ _ _ _ _ so_far.1 more,
      further so_far.0 _ _ (encode_utf8 c.in-Some.c) c.in-Some.ensures.steps.0 ∙ so_far.2,
    )

pub returns : goal.returns
returns g c = λ plain ok.
    let so_far = c.text.invariant plain in
    let last = c.write_str-2.ensures.writes so_far.1.plain ok in
    has_written_of_eq _ _ _ _ _
    (at_end _ so_far.0 c.args.text.now c.in-None.ensures.steps.0.0 so_far.2)
    (has_written_append _ _ _ _ _ _ so_far.1 last)
