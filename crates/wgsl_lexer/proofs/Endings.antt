-- What ends the tokens of a text is at the front of what is after the last of them.
use Rattle.std.proofs.Common.{◌≡◌, ℕ, Bool, false, List, [], ◌∷◌, Option, Some, None, chars, length, drop, refl, sym, ap, subst, ◌∙◌, arith}
use Rattle.std.specs.Borrow.{Bor}
use Rattle.std.specs.Str.{IsUtf8, IsCharBoundary}
use Rattle.std.specs.Str.Pattern.{GetsRange}
use Rattle.std.proofs.lemmas.Str.{IsCharBoundary-end}
use Rattle.grammar.specs.Tokens.{Token, last_end}
use Rattle.grammar.specs.Endings.{Ending, Ending.finished}
use Rattle.wgsl_model.specs.Tokens.Raw.{Raw, none_left, invalid, token, raw}
use Rattle.wgsl_model.specs.Tokens.Templates.{is_word}
use Rattle.wgsl_model.specs.Tokens.TokenList.{IsTokenList, place, width}
use Rattle.wgsl_span.specs.declared.Span.{Span}
use Rattle.wgsl_theory_grammar.proofs.Tokens.Cuts.{EndsWith, cut_at, joined, after_first, after_token}
use Rattle.wgsl_theory_grammar.proofs.Tokens.Lists.{fault_at}
use Rattle.wgsl_theory_grammar.proofs.Tokens.Places.{bytes_width, cut_end, gets_end}
use Rattle.wgsl_theory_templates.specs.Rest.Left.{LeftOf, left_nothing, left_fault, left_end, left_start, left_token}
use Rattle.wgsl_theory_templates.proofs.Rest.LeftTokens.{stream}
use Rattle.wgsl_lexer.specs.Endings.{ending_with, IsInvalidAt}

-- how tokens end after which a text begins so
abbrev EndsSo : ℕ → Raw → Ending → Type 0
EndsSo total none_left e = e ≡ finished
EndsSo total (invalid from after) e = e ≡ fault_at total from after
EndsSo total (token kind from after) e = ⊥

-- the end of a text from a place on, and how tokens end after which it is
abbrev EndsAfter : ℕ → List ℕ → ℕ → Ending → Type 0
EndsAfter total text end e = (rest : List ℕ) × EndsWith text rest × (place total rest ≡ end)
    × EndsSo total (raw rest) e

-- the same of a text that ends with that one
longer : (total : ℕ) (text after : List ℕ) (end : ℕ) (e : Ending) → EndsWith text after
    → EndsAfter total after end e → EndsAfter total text end e
longer total text after end e h k = (k.0, joined text after k.0 h k.1, k.2, k.3)

ends_after : (total : ℕ) (ends : List ℕ) (word : Bool) (text : List ℕ) (ts : List Token) (e : Ending)
    → LeftOf total ends word text ts e → EndsAfter total text (last_end (place total text) ts) e
ends_after total ends word text ts e (left_nothing x w t r) =
    (text, ([], refl), refl, subst (λ m. EndsSo total m finished) (sym r) refl)
ends_after total ends word text ts e (left_fault x w t from after r) =
    (text, ([], refl), refl, subst (λ m. EndsSo total m (fault_at total from after)) (sym r) refl)
ends_after total ends word text ts e (left_end x w t from after kind us f r h) =
    longer total text (drop 1 from) _ f
    (joined text from (drop 1 from) (cut_at text from after kind r).0 (after_first from))
    (ends_after total x false (drop 1 from) us f h)
ends_after total ends word text ts e (left_start x t from after end kind us f r b c k h) =
    longer total text after _ f (after_token text from after kind r)
    (ends_after total (place total end ∷ ends) false after us f h)
ends_after total ends word text ts e (left_token x w t from after kind us f r b n h) =
    longer total text after _ f (after_token text from after kind r)
    (ends_after total ends (is_word kind.class) after us f h)

-- of a source
source_ends : (source : List ℕ) (ts : List Token) (e : Ending) → IsTokenList source ts e
    → EndsAfter (width source) source (last_end 0 ts) e
source_ends source ts e h =
    let start : place (width source) source ≡ 0 = omega arith in
    subst (λ p. EndsAfter (width source) source (last_end p ts) e) start
    (ends_after (width source) [] false source ts e (stream (width source) source ts e (omega arith) h))

-- what is found there says how they end
told : (total : ℕ) (r : Raw) (found : Option Span) (e : Ending) → EndsSo total r e
    → IsInvalidAt total r found → e ≡ ending_with found
told total none_left found e h k = h ∙ ap ending_with (sym k)
told total (invalid from after) found e h k = h ∙ ap ending_with (sym k)
told total (token kind from after) found e h k = absurd h

-- the text from the end of the last token on
pub found_after : (bs : List ℕ) (at : ℕ) (rest : Bor (List ℕ)) (found : Option Span) → IsUtf8 bs
    → GetsRange bs at (length bs) (Some rest) → IsInvalidAt (length bs) (raw (chars rest.now)) found
    → (ts : List Token) (e : Ending) → IsTokenList (chars bs) ts e → at ≡ last_end 0 ts
    → e ≡ ending_with found
found_after bs at rest found u gets front ts e h place_is =
    let size = bytes_width bs u in
    let k = subst (λ n. EndsAfter n (chars bs) (last_end 0 ts) e) size (source_ends (chars bs) ts e h) in
    let same : chars rest.now ≡ k.0 = gets_end bs at k.0 rest u k.1 (place_is ∙ sym k.2) gets in
    told (length bs) (raw k.0) found e k.3 (subst (λ x. IsInvalidAt (length bs) (raw x) found) same front)

-- which there always is
pub always_after : (bs : List ℕ) (at : ℕ) → IsUtf8 bs → GetsRange bs at (length bs) None
    → (ts : List Token) (e : Ending) → IsTokenList (chars bs) ts e → at ≡ last_end 0 ts
    → e ≡ ending_with None
always_after bs at u gets ts e h place_is =
    let size = bytes_width bs u in
    let k = subst (λ n. EndsAfter n (chars bs) (last_end 0 ts) e) size (source_ends (chars bs) ts e h) in
    let cut = cut_end bs k.1.0 k.0 u k.1.1 in
    let start : at ≡ width k.1.0 = omega (arith, place_is, k.2, cut.3) in
    absurd (gets (omega (arith, start, cut.3)) (subst (IsCharBoundary bs) (sym start) cut.2) (IsCharBoundary-end bs))
