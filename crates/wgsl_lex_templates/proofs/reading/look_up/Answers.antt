use Rattle.std.proofs.Common.{◌≡◌, ◌∙◌, chars, length, sym, subst, ℕ, List, arith}
use Rattle.wgsl_theory_grammar.proofs.Tokens.Cuts.{joined}
use Rattle.wgsl_lex_templates.specs.declared.findings.Finding.{Finding}
use Rattle.wgsl_lex_templates.specs.Reached.{GoesOn}
use Rattle.wgsl_lex_templates.specs.Findings.{IsFinding, IsListOrNone}
use Rattle.wgsl_theory_grammar.proofs.Tokens.Places.{gets_end, bytes_width}
use Rattle.wgsl_lex_templates.proofs.Readings.Found.{entry_right}
use Rattle.wgsl_lex_templates.proofs.reading.look_up.Goals as goal

pub overflow_sub-place : goal.overflow_sub-place
overflow_sub-place c = omega (arith, c.place.ensures, c.requires.shorter, bytes_width c.args.after.now c.utf8.after)

pub returns-in-Some-Around : goal.returns-in-Some-Around
returns-in-Some-Around c pieces are =
    let total = length c.args.source.now in
    let found = c.in-Some-Around in
    let entry = entry_right total (chars c.args.source.now) pieces c.args.findings.now.entries.items
    _ found.field-0 are found.ensures in (
      sym c.ends_with_less_than.ensures ∙ c.if-not-ends_with_less_than.false,
      subst (λ (r : Finding). IsFinding total pieces (chars c.args.after.now) r) found.field-0-is
          (entry (chars c.args.after.now) c.requires.ends
          (omega (arith, c.place.ensures, c.requires.shorter, bytes_width c.args.after.now c.utf8.after))),
    )

pub returns-in-Some : goal.returns-in-Some
returns-in-Some c pieces are =
    let total = length c.args.source.now in
    let after = chars c.args.after.now in
    let found = c.in-Some-GoesOn in
    let entry = entry_right total (chars c.args.source.now) pieces c.args.findings.now.entries.items
    _ found.field-0 are found.ensures in
    let h = subst (λ (r : Finding). IsFinding total pieces after r) found.field-0-is (entry after c.requires.ends
    (omega (arith, c.place.ensures, c.requires.shorter, bytes_width c.args.after.now c.utf8.after))) in
    let cut = joined (chars c.args.source.now) after h.0 c.requires.ends h.3.0 in
    let same : chars c.in-Some.rest.now ≡ h.0 = gets_end c.args.source.now found.place h.0
    c.in-Some.rest c.utf8.source cut h.1 c.in-Some.ensures.cases in
    let known = subst (λ (x : List ℕ). IsListOrNone found.is_list total after x
    × GoesOn total pieces after x found.start found.end) (sym same) (h.2, h.3) in (
      sym c.ends_with_less_than.ensures ∙ c.if-not-ends_with_less_than.false,
      known.0,
      known.1,
    )
