use Rattle.std.proofs.Common.{arith, ◌≡◌, ◌<◌, ◌∷◌, ◌++◌, ◌∙◌, sym, ap, slice_get, chars}
use Rattle.std.proofs.lemmas.Grind.{common_steps}
use Rattle.std.proofs.lemmas.Str.{chars_past_char}
use Rattle.std.specs.Char.{encode_utf8}
use Rattle.wgsl_lex_scanner.proofs.Bytes.{first_ascii, no_first, no_bytes}
use Rattle.wgsl_lex_scanner.proofs.text.split_first.Goals as goal

pub returns-in_err-byte-clause-parts : goal.returns-in_err-byte-clause-parts
returns-in_err-byte-clause-parts c =
    rw c.from_residual.ensures (no_first c.args.text.now
    (c.in_err-byte.ensures.value ∙ ap (λ bs. slice_get bs 0) c.as_bytes.ensures.value))

pub returns-in_err-byte-clause-shorter : goal.returns-in_err-byte-clause-shorter
returns-in_err-byte-clause-shorter c =
    rw c.from_residual.ensures (no_bytes c.args.text.now
    (c.in_err-byte.ensures.value ∙ ap (λ bs. slice_get bs 0) c.as_bytes.ensures.value))

pub range_from-requires : goal.range_from-requires
range_from-requires c =
    let low : c.in_ok-byte.field-0.now < 128 = grind (arith, common_steps) in
    let first = c.in_ok-byte.ensures.value ∙ ap (λ bs. slice_get bs 0) c.as_bytes.ensures.value in
    λ _. (first_ascii c.args.text.now c.in_ok-byte.field-0.now first low c.utf8.text).0

pub returns-then-is_ascii-clause-parts : goal.returns-then-is_ascii-clause-parts
returns-then-is_ascii-clause-parts c =
    let low : c.in_ok-byte.field-0.now < 128 = grind (arith, common_steps) in
    let first = c.in_ok-byte.ensures.value ∙ ap (λ bs. slice_get bs 0) c.as_bytes.ensures.value in
    (first_ascii c.args.text.now c.in_ok-byte.field-0.now first low c.utf8.text).1
    ∙ ap (λ bs. c.in_ok-byte.field-0.now ∷ chars bs) (sym c.range_from.ensures.value)

pub returns-clause-parts : goal.returns-clause-parts
returns-clause-parts c =
    let bytes : c.args.text.now ≡ encode_utf8 c.in_ok-first.first ++ c.as_str.result.now =
    grind (arith, common_steps) in
    chars_past_char c.args.text.now c.as_str.result.now c.in_ok-first.first c.utf8.text bytes
