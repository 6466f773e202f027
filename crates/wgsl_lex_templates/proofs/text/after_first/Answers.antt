use Rattle.std.proofs.Common.{◌≡◌, ◌++◌, arith, drop, length, sym, ap}
use Rattle.std.proofs.lemmas.Grind.{common_steps}
use Rattle.std.proofs.lemmas.Str.{chars_past_char}
use Rattle.std.specs.Char.{encode_utf8}
use Rattle.wgsl_lex_templates.proofs.TextLists.Scans.{no_text}
use Rattle.wgsl_lex_templates.proofs.text.after_first.Goals as goal

pub returns-in-Some-clause-value : goal.returns-in-Some-clause-value
returns-in-Some-clause-value c =
    let bytes : c.args.text.now ≡ encode_utf8 c.in-Some.field-0 ++ c.as_str.result.now = grind (arith, common_steps) in
    sym (ap (λ x. drop 1 x) (chars_past_char c.args.text.now c.as_str.result.now c.in-Some.field-0 c.utf8.text bytes))

pub returns-in-None-clause-value : goal.returns-in-None-clause-value
returns-in-None-clause-value c =
    let empty : length c.args.text.now ≡ 0 = grind (arith, common_steps) in
    no_text c.args.text.now empty
