-- What is known of each `<` of a source that was tried.
use Rattle.std.specs.Prelude.{◌≡◌, ◌<◌, ◌+◌, ℕ, Bool, true, false, List, [], ◌∷◌, length, get_or}
use Rattle.wgsl_model.specs.Tokens.Places.{place}
use Rattle.wgsl_theory_grammar.proofs.Tokens.Cuts.{EndsWith}
use Rattle.wgsl_theory_templates.specs.Attempts.{EndsAt, HasNoEnd, NoneAround}
use Rattle.wgsl_span.specs.declared.Span.{Span}
use Rattle.wgsl_lex_templates.specs.declared.kept.Piece.{Piece}
use Rattle.wgsl_lex_templates.specs.declared.findings.Finding.{Finding}
use Rattle.wgsl_lex_templates.specs.declared.findings.Finding.TheVariants as finding
use Rattle.wgsl_lex_templates.specs.declared.findings.Entry.{Entry}
use Rattle.wgsl_lex_templates.specs.Reached.{GoesOn}

-- one of the entries says this of the `<` at a place
abbrev pub IsEntry : List Entry → ℕ → Finding → Type 0
IsEntry entries start finding = (i : ℕ) × (i < length entries)
    × ((d : Entry) → get_or entries i d ≡ record { start = start; finding = finding })

-- a list ends at the rest whose `<` is before the text, or none begins there
abbrev pub IsListOrNone : Bool → ℕ → List ℕ → List ℕ → Type 0
IsListOrNone true total text rest = EndsAt total text rest
IsListOrNone false total text rest = HasNoEnd total text

-- what is known of the `<` before a text: no list begins at it, and none is around it; or those
-- around it go on at a place, which is that of its `>` where it begins one
abbrev pub IsFinding : ℕ → List Piece → List ℕ → Finding → Type 0
IsFinding total pieces text finding.Around = NoneAround total text
IsFinding total pieces text (finding.GoesOn is_list at start end) = (rest : List ℕ)
    × (at ≡ place total rest) × IsListOrNone is_list total text rest
    × GoesOn total pieces text rest start end

-- the list that begins at the `<`
abbrev pub begun_list : ℕ → Finding → List Span
begun_list first (finding.GoesOn true at start end) = record { start = first; end = at + 1 } ∷ []
begun_list first f = []

-- the place of its `>`, or 0
abbrev pub greater_place : Finding → ℕ
greater_place (finding.GoesOn true at start end) = at
greater_place f = 0

-- what an entry says of the text after its `<` is right
abbrev pub IsRight : ℕ → List ℕ → List Piece → Entry → Type 0
IsRight total source pieces entry = (after : List ℕ) → EndsWith source after
    → entry.start + 1 ≡ place total after → IsFinding total pieces after entry.finding

-- and so of each
abbrev pub AreRight : ℕ → List ℕ → List Piece → List Entry → Type 0
AreRight total source pieces entries = (i : ℕ) (d : Entry) → i < length entries
    → IsRight total source pieces (get_or entries i d)
