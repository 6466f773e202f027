use Rattle.std.proofs.Common.{◌≡◌, ℕ, List, [], ◌++◌, ap, ◌∙◌}
use Rattle.std.proofs.lemmas.Str.{IsUtf8-had, is_utf8-from_IsUtf8}
use Rattle.wgsl_model.specs.Program.{Formats.refused, Formats.not_utf8}
use Rattle.wgsl_format.specs.Deeper.{FormatsWithin}
use Rattle.wgsl_tree_unit.specs.View.{unit_view}
use Rattle.wgsl_format.specs.RunOutput.{IsReprinted}
use Rattle.wgsl_format.proofs.Reports.{refused_writes, refused_makes, deeper_writes, no_text}
use Rattle.wgsl_format.proofs.Reprinted.{formats_unit, reprinted, within}
use Rattle.wgsl_format.proofs.printer.PrinterFormatter.report.Goals as goal

pub returns-in_default-clause-due : goal.returns-in_default-clause-due
returns-in_default-clause-due c = within _ _ _ (not_utf8 (no_text _ c.in_default.ensures.cases.0))

-- what is written after nothing is the whole text
written : (text empty unit : List ℕ) → text ≡ empty ++ unit → empty ≡ [] → text ≡ unit
written text empty unit whole none = whole ∙ ap (λ before. before ++ unit) none

pub returns-in_ok-write-in-Ok-parse_within-clause-due : goal.returns-in_ok-write-in-Ok-parse_within-clause-due
returns-in_ok-write-in-Ok-parse_within-clause-due c =
    let source = c.in-Ok.ensures.cases in
    let derived = rw source.0 at c.in-Ok-parse_within.ensures.accepted in
    within _ _ _ (formats_unit _ _ (unit_view c.in-Ok-parse_within.unit) (is_utf8-from_IsUtf8 _ source.1) derived
    (written _ _ _ c.in_ok-write-in-Ok-parse_within.ensures.bytes c.in_ok-printed-in-Ok-parse_within.ensures.bytes))

pub returns-in_ok-write-in-Ok-parse_within-clause-made : goal.returns-in_ok-write-in-Ok-parse_within-clause-made
returns-in_ok-write-in-Ok-parse_within-clause-made c = λ _.
    let source = c.in-Ok.ensures.cases in
    let derived = rw source.0 at c.in-Ok-parse_within.ensures.accepted in
    reprinted _ _ (unit_view c.in-Ok-parse_within.unit) derived
    (written _ _ _ c.in_ok-write-in-Ok-parse_within.ensures.bytes c.in_ok-printed-in-Ok-parse_within.ensures.bytes)
    (is_utf8-from_IsUtf8 _ (IsUtf8-had _ c.write.new.self.ok))

pub returns-then-matches-clause-due : goal.returns-then-matches-clause-due
returns-then-matches-clause-due c =
    let source = c.in-Ok.ensures.cases in
    deeper_writes _ _ _ _ c.in-Some.is (is_utf8-from_IsUtf8 _ source.1) (rw source.0 at c.too_deep.ensures)

pub returns-after-self-clause-due : goal.returns-after-self-clause-due
returns-after-self-clause-due c =
    let source = c.in-Ok.ensures.cases in
    let named = rw source.0 at c.in-Err.ensures.refused in
    refused_writes (FormatsWithin c.args.self.now.depth) _ _ _ _
    (λ x fault. within _ _ _ (refused x (is_utf8-from_IsUtf8 _ source.1) fault))
    named c.refused.ensures.told c.refused.ensures.memory

pub returns-after-self-clause-made : goal.returns-after-self-clause-made
returns-after-self-clause-made c =
    refused_makes (IsReprinted c.args.source.now) _ c.refused.result c.refused.ensures.told
