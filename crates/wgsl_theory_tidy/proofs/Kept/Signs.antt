-- How symbols are spelled: `<`, those that begin with `>`, and those that begin with `/`.
use Rattle.std.proofs.Common.{◌≡◌, ◌⊎◌, inl, inr, ℕ, ◌==◌, ◌&&◌, ◌||◌, Bool, true, not, refl, sym, ap, ◌∙◌, List, [], ◌∷◌, Option, Some, None, lit<}
use Rattle.std.specs.Prelude.{option_map, nat_lt, bytes_eq}
use Rattle.std.proofs.lemmas.Bool.{eqb-true}
use Rattle.std.proofs.lemmas.Slice.Eq.{bytes_eq-Decides}
use Rattle.unicode_ident.proofs.IdentLemmas.{is_xid_start-ascii}
use Rattle.grammar.proofs.Reading.Sets.{and_true, implied}
use Rattle.wgsl_model.specs.Tokens.ClassTable.{SymForwardSlash, SymDivisionEqual, SymGreaterThan, SymGreaterThanEqual, SymShiftRight, SymShiftRightAssign, SymLessThan, SymUnderscore, symbols}
use Rattle.wgsl_model.specs.Tokens.Kind.{Kind, plain}
use Rattle.wgsl_model.specs.Tokens.Raw.{kind_of_spelling}
use Rattle.wgsl_model.specs.Tokens.Templates.{begins_with_greater}
use Rattle.wgsl_model.specs.Tokens.Trivia.{first_or_zero}
use Rattle.wgsl_model.specs.Tokens.Words.{look_up}
use Rattle.wgsl_theory_grammar.proofs.Tokens.Classes.{passes_on}
use Rattle.wgsl_theory_grammar.proofs.Tokens.Symbols.{found_passes, is_symbol}
use Rattle.wgsl_theory_printed.proofs.Spelling.Split.{by_either}

-- ---- a token with a symbol's class is looked up in the symbols' table

-- the classes of symbols, but for `_`, which is spelled as a word
abbrev is_sign_class : ℕ → Bool
is_sign_class c = nat_lt c 46 && not (c == SymUnderscore)

sign_is : (w : List ℕ) (k : Kind) → kind_of_spelling w ≡ Some k → is_sign_class k.class ≡ true
    → look_up symbols w ≡ Some k.class
sign_is w k v s = is_symbol is_sign_class refl refl w k v s

-- ---- `<` and what begins with `>`

abbrev is_less : List ℕ → ℕ → Bool
is_less w c = not (c == SymLessThan) || bytes_eq w (60 ∷ [])

-- the characters of a `<`
pub less_text : (w : List ℕ) (k : Kind) → kind_of_spelling w ≡ Some k → k.class ≡ SymLessThan → w ≡ 60 ∷ []
less_text w k v l =
    let found = sign_is w k v (ap is_sign_class l) in
    (bytes_eq-Decides w (60 ∷ [])).0 (implied (k.class == SymLessThan) _
    (found_passes is_less symbols w k.class refl found) (ap (λ c. c == SymLessThan) l))

abbrev is_greater : List ℕ → ℕ → Bool
is_greater w c = not (begins_with_greater c) || (first_or_zero w == 62)

begun : (w : List ℕ) → (first_or_zero w == 62) ≡ true → (more : List ℕ) × (w ≡ 62 ∷ more)
begun [] h = absurd (cc)
begun (c ∷ cs) h = (cs, ap (λ x. x ∷ cs) (eqb-true c 62 h))

-- those of a token that begins with `>`
pub greater_text : (w : List ℕ) (k : Kind) → kind_of_spelling w ≡ Some k
    → begins_with_greater k.class ≡ true → (more : List ℕ) × (w ≡ 62 ∷ more)
greater_text w k v g =
    let found = sign_is w k v (passes_on is_sign_class k.class
    (SymGreaterThan ∷ SymGreaterThanEqual ∷ SymShiftRight ∷ SymShiftRightAssign ∷ []) refl g) in
    begun w (implied (begins_with_greater k.class) _ (found_passes is_greater symbols w k.class refl found) g)

-- ---- what begins with `/`

abbrev is_slash_text : List ℕ → ℕ → Bool
is_slash_text w c = not (first_or_zero w == 47)
    || ((bytes_eq w (47 ∷ []) && c == SymForwardSlash) || (bytes_eq w (47 ∷ (61 ∷ [])) && c == SymDivisionEqual))

-- the two such tokens
abbrev pub IsSlash : List ℕ → Kind → Type 0
IsSlash w k = ((w ≡ 47 ∷ []) × (k ≡ plain SymForwardSlash)) ⊎ ((w ≡ 47 ∷ (61 ∷ [])) × (k ≡ plain SymDivisionEqual))

slash_of : (v w : List ℕ) (class c : ℕ) (k : Kind) → plain c ≡ k
    → (bytes_eq w v && c == class) ≡ true → (w ≡ v) × (k ≡ plain class)
slash_of v w class c k same h =
    let parts = and_true (bytes_eq w v) (c == class) h in
    ((bytes_eq-Decides w v).0 parts.0, sym same ∙ ap plain (eqb-true c class parts.1))

found_slash : (o : Option ℕ) (cs : List ℕ) (k : Kind) → look_up symbols (47 ∷ cs) ≡ o
    → option_map plain o ≡ Some k → IsSlash (47 ∷ cs) k
found_slash None cs k e h = absurd (cc)
found_slash (Some c) cs k e h =
    let same : plain c ≡ k = cc in
    by_either (bytes_eq (47 ∷ cs) (47 ∷ []) && c == SymForwardSlash) _
    (found_passes is_slash_text symbols (47 ∷ cs) c refl e)
    (λ s. inl (slash_of (47 ∷ []) (47 ∷ cs) SymForwardSlash c k same s))
    (λ s. inr (slash_of (47 ∷ (61 ∷ [])) (47 ∷ cs) SymDivisionEqual c k same s))

slash_value : (cs : List ℕ) → kind_of_spelling (47 ∷ cs) ≡ option_map plain (look_up symbols (47 ∷ cs))
slash_value cs = rw (is_xid_start-ascii 47 (lit< tt)) refl

-- a token that begins with `/`
pub slash_text : (cs : List ℕ) (k : Kind) → kind_of_spelling (47 ∷ cs) ≡ Some k → IsSlash (47 ∷ cs) k
slash_text cs k v = found_slash (look_up symbols (47 ∷ cs)) cs k refl (sym (slash_value cs) ∙ v)
