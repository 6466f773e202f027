-- Lists that are the same as far as they were compared.
use Rattle.std.proofs.Common.{◌≡◌, ◌∙◌, ℕ, zero, suc, ◌+◌, ◌<◌, ◌≤◌, List, [], ◌∷◌, ◌++◌, length, get_or, take, map, sym, ap, arith}
use Rattle.std.proofs.lemmas.Grind.{take_at_read}
use Rattle.std.proofs.lemmas.List.{length-map, map-append, take_all}

-- one more
pub same_more : {A B : Type 0} (f : A → B) (xs ys : List A) (i : ℕ) (d e : A) → i < length xs → i < length ys
    → map f (take i xs) ≡ map f (take i ys) → f (get_or xs i d) ≡ f (get_or ys i e)
    → map f (take (i + 1) xs) ≡ map f (take (i + 1) ys)
same_more f xs ys i d e lt lu before here =
    ap (map f) (take_at_read xs i d lt).1 ∙ map-append f (take i xs) (get_or xs i d ∷ [])
    ∙ (λ j. before j ++ (here j ∷ []))
    ∙ sym (ap (map f) (take_at_read ys i e lu).1 ∙ map-append f (take i ys) (get_or ys i e ∷ []))

-- the same at each place
pub same_at : {A B : Type 0} (f : A → B) (xs ys : List A) (i : ℕ) (d e : A) → i < length xs → map f xs ≡ map f ys
    → f (get_or xs i d) ≡ f (get_or ys i e)
same_at f [] ys i d e lt same = absurd (omega (arith, lt))
same_at f (x ∷ xs) [] i d e lt same = absurd (cc)
same_at f (x ∷ xs) (y ∷ ys) zero d e lt same = cc
same_at f (x ∷ xs) (y ∷ ys) (suc i) d e lt same =
    let rest : map f xs ≡ map f ys = cc in
    let lu : i < length xs = omega (arith, lt) in
    same_at f xs ys i d e lu rest

-- the whole of both
pub same_whole : {A B : Type 0} (f : A → B) (xs ys : List A) (i : ℕ) → length xs ≤ i → length ys ≤ i
    → map f (take i xs) ≡ map f (take i ys) → map f xs ≡ map f ys
same_whole f xs ys i most least same =
    ap (map f) (sym (take_all i xs most)) ∙ same ∙ ap (map f) (take_all i ys least)

pub same_lengths : {A B : Type 0} (f : A → B) (xs ys : List A) → map f xs ≡ map f ys → length xs ≡ length ys
same_lengths f xs ys same = sym (length-map xs f) ∙ ap length same ∙ length-map ys f
