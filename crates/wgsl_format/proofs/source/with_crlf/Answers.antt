use Rattle.std.proofs.Common.{◌∙◌, ◌++◌, [], ◌∷◌, ap}
use Rattle.std.specs.Prelude.{string_bytes}
use Rattle.std.proofs.lemmas.Str.{IsUtf8-string_bytes}
use Rattle.wgsl_format.proofs.Sources.{one_line, after_text, last_line}
use Rattle.wgsl_format.proofs.source.with_crlf.Goals as goal

pub lines-preserved : goal.lines-preserved
lines-preserved c =
    let old = string_bytes c.lines.changed in
    let text = c.lines.invariant.0 in (
      after_text c.lines.rest.now c.in-Some.line.now c.in-Some.after.now text c.in-Some.ensures.cases,
      one_line old (string_bytes c.push_str-in-Some-2.new.self) c.lines.rest.now c.in-Some.line.now
          c.in-Some.after.now _ (IsUtf8-string_bytes c.lines.changed) text c.in-Some.ensures.cases
          (c.in_ok-push_str-3.ensures.bytes
          ∙ ap (λ xs. xs ++ (13 ∷ (10 ∷ []))) c.in_ok-push_str-2.ensures.bytes) c.lines.invariant.1,
    )

pub returns : goal.returns
returns c =
    last_line (string_bytes c.lines.changed) (string_bytes c.push_str-2.new.self) c.lines.rest.now _
    (IsUtf8-string_bytes c.lines.changed) c.lines.invariant.0 c.in_default.ensures.cases
    c.in_ok-push_str-4.ensures.bytes c.lines.invariant.1
