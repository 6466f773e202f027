-- Copies of lists, one item more at a time, and what they show.
use Rattle.std.proofs.Common.{ℕ, ◌+◌, ◌<◌, ◌≡◌, refl, sym, ◌∙◌, ap, subst, List, [], ◌∷◌, ◌++◌, take, length, get_or, map, Option, Some, None}
use Rattle.std.proofs.lemmas.List.{take_more}
use Rattle.std.specs.Option.{option_map}
use Rattle.wgsl_span.specs.Copies.{OptionCopies, ListCopies}

one_more : {T : Type 0} (copies : T → T → Type 0) (xs ys : List T) (x y : T)
    → ListCopies copies xs ys → copies x y → ListCopies copies (xs ++ (x ∷ [])) (ys ++ (y ∷ []))
one_more copies [] [] x y h c = (c, tt)
one_more copies (a ∷ xs) (b ∷ ys) x y h c = (h.0, one_more copies xs ys x y h.1 c)
one_more copies [] (b ∷ ys) x y h c = absurd h
one_more copies (a ∷ xs) [] x y h c = absurd h

pub item_more : {T : Type 0} (copies : T → T → Type 0) (xs ys : List T) (k : ℕ) (x y : T)
    → k < length xs → x ≡ get_or xs k x → ListCopies copies (take k xs) ys → copies x y
    → ListCopies copies (take (k + 1) xs) (ys ++ (y ∷ []))
item_more copies xs ys k x y h at so c =
    subst (λ l. ListCopies copies l (ys ++ (y ∷ [])))
    (sym (take_more xs k x h ∙ ap (λ z. take k xs ++ (z ∷ [])) (sym at)))
    (one_more copies (take k xs) ys x y so c)

-- where a copy is seen as what it copies is, so are an option and a list of copies
module _ {T View : Type 0} (copies : T → T → Type 0) (view : T → View)
    (shown : (x y : T) → copies x y → view y ≡ view x) where
  pub option_shown : (x y : Option T) → OptionCopies copies x y → option_map view y ≡ option_map view x
  option_shown None None h = refl
  option_shown (Some x) (Some y) h = ap (λ v. Some v) (shown x y h)
  option_shown None (Some y) h = absurd h
  option_shown (Some x) None h = absurd h

  pub list_shown : (xs ys : List T) → ListCopies copies xs ys → map view ys ≡ map view xs
  list_shown [] [] h = refl
  list_shown (x ∷ xs) (y ∷ ys) h = λ i. shown x y h.0 i ∷ list_shown xs ys h.1 i
  list_shown [] (y ∷ ys) h = absurd h
  list_shown (x ∷ xs) [] h = absurd h
