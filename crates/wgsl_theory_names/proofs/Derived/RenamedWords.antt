-- Renamed tokens of a text are words as those of a text are, so what is written from a renamed
-- module derives it.
use Rattle.std.proofs.Common.{◌≡◌, ℕ, Bool, true, false, List, [], ◌∷◌, map, refl, sym, ap, subst, ◌∙◌, inl, inr, chars, ◌⊎◌}
use Rattle.std.proofs.lemmas.Bool.{true≢false}
use Rattle.grammar.specs.Tokens.{Token, Payload, Payload.nothing, Payload.name, Payload.number}
use Rattle.grammar.specs.Grammar.{Mode.checking, Derives, is_among}
use Rattle.grammar.specs.Endings.{Ending.finished}
use Rattle.wgsl_model.specs.Tokens.ClassTable.{Ident, ReservedWord}
use Rattle.wgsl_model.specs.Tokens.Kind.{Kind}
use Rattle.wgsl_model.specs.Tokens.Raw.{kind_of_word}
use Rattle.wgsl_model.specs.Trees.Units.{TranslationUnit}
use Rattle.wgsl_model.specs.Trees.EmptyItems.{full_unit}
use Rattle.wgsl_model.specs.Trees.StatementsWithoutSpans.{bare_unit}
use Rattle.wgsl_model.specs.Program.{IsUnit}
use Rattle.wgsl_model.specs.Grammar.TokenValues.{text_of, word_of}
use Rattle.wgsl_model.specs.Grammar.Symbols.{unit}
use Rattle.wgsl_model.specs.Grammar.Written.{written, keyword_classes}
use Rattle.wgsl_theory_reread.specs.CanonicalUnits.{canonical, without_place}
use Rattle.wgsl_theory_reread.proofs.Words.{NoPeriod, IsWord, AllWords}
use Rattle.wgsl_theory_reread.proofs.DerivedAgain.{unit_again}
use Rattle.wgsl_theory_printed.proofs.PlainWords.{module_words}
use Rattle.wgsl_model_names.specs.Renamed.{Renaming, renamed_unit}
use Rattle.wgsl_model_names.specs.RenamedTokens.{IsRenamedToken, AreRenamedTokens, FixesUnderscore, IsIdentifier, GivesIdentifiers}
use Rattle.wgsl_theory_names.proofs.Derived.Derivations.{unit_renames}

-- an identifier is the token that its word is, and has no `.`
abbrev pub IsOwnKind : List ℕ → Type 0
IsOwnKind word = (record { class = Ident; payload = name word } ≡ kind_of_word word) × NoPeriod word

abbrev is_name : Payload → Bool
is_name nothing = false
is_name (name word) = true
is_name (number n) = false

-- an identifier that is the token of its word holds the word
own_payload : (c : ℕ) (p : Payload) → c ≡ Ident → record { class = c; payload = p } ≡ kind_of_word (word_of c p)
    → record { class = Ident; payload = name (word_of c p) } ≡ kind_of_word (word_of c p)
own_payload c (name word) e h = (λ i. record { class = sym e i; payload = name word }) ∙ h
own_payload c nothing e h =
    absurd (true≢false (sym (subst (λ (d : ℕ). false ≡ is_name (kind_of_word (word_of d nothing)).payload) e
    (ap (λ (k : Kind). is_name k.payload) h))))
own_payload c (number n) e h = absurd (true≢false (sym (ap (λ (k : Kind). is_name k.payload) h)))

pub own_kind : (t : Token) → IsWord t → t.class ≡ Ident → IsOwnKind (text_of t)
own_kind t word class =
    let w = word (subst (λ (c : ℕ). is_among c (Ident ∷ ReservedWord ∷ keyword_classes) ≡ true) (sym class) refl) in
    (own_payload t.class t.payload class w.0, w.1)

identifier_kind : (x : List ℕ) → IsIdentifier x → IsOwnKind x
identifier_kind x (t, tokens, class, payload, front) =
    subst IsOwnKind (ap (word_of t.class) payload)
    (own_kind t (module_words (chars x) (t ∷ []) finished tokens).0 class)

pub given_kind : (t : Token) → IsWord t → t.class ≡ Ident → (y : List ℕ)
    → (y ≡ text_of t) ⊎ IsIdentifier y → IsOwnKind y
given_kind t word class y (inl same) = subst IsOwnKind (sym same) (own_kind t word class)
given_kind t word class y (inr identifier) = identifier_kind y identifier

renamed_word : (f : Renaming) → GivesIdentifiers f → (t u : Token) → IsWord t → IsRenamedToken f t u → IsWord u
renamed_word f gives t u word (inl e) = subst IsWord (sym e) word
renamed_word f gives t u word (inr (class, e)) =
    let own = given_kind t word class (f (text_of t)) (gives (text_of t)) in
    subst IsWord (sym e) (λ among. ((λ i. record { class = class i; payload = name (f (text_of t)) }) ∙ own.0, own.1))

pub renamed_words : (f : Renaming) → GivesIdentifiers f → (ts us : List Token) → AreRenamedTokens f ts us
    → AllWords ts → AllWords us
renamed_words f gives [] [] e words = tt
renamed_words f gives [] (u ∷ us) e words = absurd e
renamed_words f gives (t ∷ ts) [] e words = absurd e
renamed_words f gives (t ∷ ts) (u ∷ us) e words =
    (renamed_word f gives t u words.0 e.0, renamed_words f gives ts us e.1 words.1)

-- tokens with the kinds that are written from a renamed module derive it
pub renamed_parse : (source : List ℕ) (u : TranslationUnit) → IsUnit source u
    → (f : Renaming) → FixesUnderscore f → GivesIdentifiers f
    → (ts : List Token) → map without_place ts ≡ canonical (renamed_unit f u)
    → (again : TranslationUnit) × Derives checking written unit again ts
    × (bare_unit again ≡ bare_unit (full_unit (renamed_unit f u)))
renamed_parse source u h f fixes gives ts e =
    let r = unit_renames f fixes u h.0 h.2 in
    unit_again (renamed_unit f u) r.0
    (renamed_words f gives h.0 r.0 r.1 (module_words source h.0 finished h.1)) r.2 ts e
