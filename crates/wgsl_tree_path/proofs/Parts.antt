-- The parts of a text, one cut at a time.
use Rattle.std.proofs.Common.{ℕ, suc, ◌+◌, ◌<◌, ◌≤◌, ◌≡◌, refl, ◌∙◌, ap, subst, List, [], ◌∷◌, ◌++◌, Bool, true, false, ◌&&◌, if◌then◌else◌, Option, None, Some, MatchOption, length, take, drop, codes, arith}
use denote.Ref.{Bor}
use borrow.Author.Tests.{eqb-true}
use Rattle.std.proofs.lemmas.Str.Pattern.{split_text_parts}
use Rattle.std.specs.List.{onto_first}
use Rattle.std.specs.Str.Pattern.{FindsText, LacksTextAt}
use Rattle.std.proofs.lemmas.Bool.{and_parts}
use Rattle.wgsl_model.specs.Trees.Paths.{is_colon, path_parts}

abbrev separator : List ℕ
separator = codes "::"

never : {A : Type 0} (b : Bool) (x y : A) → (b ≡ true → ⊥) → (if b then x else y) ≡ y
never true x y h = absurd (h refl)
never false x y h = refl

-- where no separator begins a text, its first byte goes to the first part
one_byte : (a : ℕ) (bs : List ℕ) → LacksTextAt separator (a ∷ bs) 0 → path_parts (a ∷ bs) ≡ onto_first a (path_parts bs)
one_byte a [] lacks = refl
one_byte a (b ∷ bs) lacks =
    never (is_colon a && is_colon b) _ _ (λ e.
    let colons = and_parts (is_colon a) (is_colon b) e in
    lacks bs (λ i. eqb-true a 58 colons.0 i ∷ (eqb-true b 58 colons.1 i ∷ bs)))

pub no_separator : (bs : List ℕ) → ((i : ℕ) → i ≤ length bs → LacksTextAt separator bs i) → path_parts bs ≡ bs ∷ []
no_separator [] lacks = refl
no_separator (a ∷ bs) lacks = one_byte a bs (lacks 0 (omega arith))
    ∙ ap (onto_first a) (no_separator bs (λ i h. lacks (suc i) (omega arith)))

cut : (part rest : List ℕ)
    → ((i : ℕ) → i < length part → LacksTextAt separator (part ++ (separator ++ rest)) i)
    → path_parts (part ++ (separator ++ rest)) ≡ part ∷ path_parts rest
cut [] rest lacks = refl
cut (a ∷ part) rest lacks = one_byte a (part ++ (separator ++ rest)) (lacks 0 (omega arith))
    ∙ ap (onto_first a) (cut part rest (λ i h. lacks (suc i) (omega arith)))

-- what `split_once` says
abbrev pub SplitsOnce : List ℕ → Option (Bor (List ℕ) × Bor (List ℕ)) → Type 0
SplitsOnce bs r = MatchOption r (FindsText separator bs None)
    (λ x. (i : ℕ) × (j : ℕ) × FindsText separator bs (Some (i, j)) × (x.0.now ≡ take i bs)
    × (x.1.now ≡ drop j bs) × (i ≤ j) × (length x.0.now ≡ i) × (length x.1.now + j ≡ length bs))

pub one_part : (bs : List ℕ) → SplitsOnce bs None → path_parts bs ≡ bs ∷ []
one_part bs lacks = no_separator bs lacks

pub more_parts : (bs : List ℕ) (part rest : Bor (List ℕ)) → SplitsOnce bs (Some (part, rest))
    → path_parts bs ≡ part.now ∷ path_parts rest.now
more_parts bs part rest splits =
    let whole = split_text_parts separator bs (Some (part, rest)) splits in
    ap path_parts whole ∙ cut part.now rest.now
    (λ i h. subst (λ (text : List ℕ). LacksTextAt separator text i) whole (splits.2.0 i (omega arith)))

pub shorter : (bs : List ℕ) (part rest : Bor (List ℕ)) → SplitsOnce bs (Some (part, rest))
    → length rest.now + 2 ≤ length bs
shorter bs part rest splits = omega (arith, splits.2.1.ends, splits.7)
