-- What reading after a `<` comes to.
use Rattle.std.specs.Prelude.{◌≡◌, ◌↔◌, ⊤, ℕ, true, List, Option, Some, None, chars, length}
use Rattle.grammar.specs.Tokens.{Token}
use Rattle.grammar.specs.Grammar.{is_among}
use Rattle.wgsl_model.specs.Tokens.ClassTable.{SymLessThan}
use Rattle.wgsl_model.specs.Tokens.Kind.{Kind}
use Rattle.wgsl_model.specs.Tokens.Raw.{raw, token}
use Rattle.wgsl_model.specs.Tokens.Templates.{Inside, NoTemplate, Template}
use Rattle.wgsl_theory_templates.specs.Attempts.{HasNoEnd, NoneAround, less_signs}
use Rattle.wgsl_lex_templates.specs.ExpressionLists.{classes_of, IsExpressionList}
use Rattle.wgsl_lex_templates.specs.declared.kept.Piece.{Piece}
use Rattle.wgsl_lex_templates.specs.declared.reading.Met.{Met}
use Rattle.wgsl_lex_templates.specs.declared.reading.Met.TheVariants as met
use Rattle.wgsl_lex_templates.specs.declared.reading.Reading.{Reading}
use Rattle.wgsl_lex_templates.specs.declared.reading.Reading.TheVariants as reading
use Rattle.wgsl_lex_templates.specs.declared.findings.Finding.{Finding}
use Rattle.wgsl_lex_templates.specs.declared.findings.Finding.TheVariants as finding
use Rattle.wgsl_lex_templates.specs.Kept.{held}
use Rattle.wgsl_lex_templates.specs.Reached.{GoesOn}
use Rattle.wgsl_lex_templates.specs.Findings.{IsFinding, IsListOrNone}

-- what is known of the token of a class that is before a text
abbrev pub IsMet : ℕ → List Piece → ℕ → List ℕ → Met → Type 0
IsMet total pieces class after met.Around = (is_among class less_signs ≡ true) × NoneAround total after
IsMet total pieces class after (met.GoesOn is_list rest start end) =
    (is_among class less_signs ≡ true) × IsListOrNone is_list total after (chars rest.now)
    × GoesOn total pieces after (chars rest.now) start end
IsMet total pieces class after met.Nothing = ⊤

-- what is inside a list up to the `>`, and that tokens of the classes of what was read are a
-- list of expressions just where that is one; or that there is no list, and as above
abbrev pub IsReading : ℕ → List ℕ → List Piece → ℕ → Reading → Type 0
IsReading total text pieces start (reading.Ends end) =
    (ts us : List Token) × Inside total (Template total) 0 text ts (chars end.now)
    × (classes_of us ≡ held pieces start (length pieces)) × (IsExpressionList us ↔ IsExpressionList ts)
    × GoesOn total pieces text (chars end.now) start (length pieces)
IsReading total text pieces start reading.Around = NoneAround total text
IsReading total text pieces start (reading.Within rest) = HasNoEnd total text
    × GoesOn total pieces text (chars rest.now) start (length pieces)

-- what a try says of a text: the `<` that it begins with; or that no list begins it
abbrev pub IsOutcome : ℕ → List ℕ → List Piece → Option Finding → Type 0
IsOutcome total text pieces None = NoTemplate (Template total) text
IsOutcome total text pieces (Some finding) = (kind : Kind) × (from after : List ℕ)
    × (raw text ≡ token kind from after) × (kind.class ≡ SymLessThan) × IsFinding total pieces after finding

-- how many tokens it takes at least
abbrev pub costs : Option Finding → ℕ
costs (Some (finding.GoesOn true at start end)) = 2
costs o = 0
