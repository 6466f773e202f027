-- Whether a list begins a text, and where it ends.
use Rattle.std.proofs.Common.{◌≡◌, ◌<◌, ◌≤◌, ◌+◌, ◌∙◌, ℕ, List, [], ◌∷◌, ◌++◌, length, sym, ap, subst, arith}
use Rattle.std.proofs.lemmas.Str.{encode_ascii}
use Rattle.std.specs.Str.{encode_utf8_all}
use Rattle.wgsl_model.specs.Tokens.ClassTable.{SymLessThan}
use Rattle.wgsl_model.specs.Tokens.Kind.{Kind}
use Rattle.wgsl_model.specs.Tokens.Raw.{raw, token}
use Rattle.wgsl_model.specs.Tokens.Places.{place, width}
use Rattle.wgsl_theory_grammar.proofs.Tokens.Cuts.{EndsWith, joined}
use Rattle.wgsl_theory_grammar.proofs.Tokens.Unique.{template_unique}
use Rattle.wgsl_lex_templates.specs.declared.kept.Piece.{Piece}
use Rattle.wgsl_lex_templates.specs.declared.findings.Finding.{Finding}
use Rattle.wgsl_lex_templates.specs.Lists.{ListEnds}
use Rattle.wgsl_lex_templates.specs.Findings.{IsFinding, IsRight}
use Rattle.wgsl_theory_grammar.proofs.Tokens.Places.{same_place}
use Rattle.wgsl_theory_grammar.proofs.Tokens.Widths.{within}
use Rattle.wgsl_lex_templates.proofs.TextLists.Fronts.{after_less}

-- a list has one end
pub one_end : (total : ℕ) (text : List ℕ) (a b : ℕ) → ListEnds total text a → ListEnds total text b → a ≡ b
one_end total text a b (ts, rest, q, e) (us, other, r, f) = e
    ∙ ap (place total) (template_unique total text ts us rest other q r).1 ∙ sym f

-- a character of one byte is before a text
pub one_wider : (c : ℕ) (text : List ℕ) → c < 128 → width (c ∷ text) ≡ width text + 1
one_wider c text small =
    let e : width (c ∷ text) ≡ length (c ∷ encode_utf8_all text) =
    ap (λ x. length (x ++ encode_utf8_all text)) (encode_ascii c small) in omega (arith, e)

-- what was found of the `<` at the front of a text is right
pub found_right : (total : ℕ) (source : List ℕ) (pieces : List Piece)
    (text tail from after : List ℕ) (kind : Kind) (start : ℕ) (r : Finding) → width source ≤ total
    → EndsWith source text → start ≡ place total text
    → text ≡ 60 ∷ tail → raw text ≡ token kind from after → kind.class ≡ SymLessThan
    → IsFinding total pieces after r → IsRight total source pieces (record { start = start; finding = r })
found_right total source pieces text tail from after kind start r fits ends s first e less h other cut t =
    let here : tail ≡ after = after_less tail from after kind (ap raw (sym first) ∙ e) less in
    let rest = joined source text tail ends (60 ∷ [], first) in
    let at : place total tail ≡ place total other = omega
    (arith, ap width first, one_wider 60 tail (omega arith), within source text ends, fits, s, t) in
    let same : tail ≡ other = same_place total source rest.0 cut.0 tail other fits rest.1 cut.1 at in
    subst (λ (x : List ℕ). IsFinding total pieces x r) (sym here ∙ same) h
