-- Texts with separators, one more at a time.
use Rattle.std.proofs.Common.{ℕ, zero, suc, ◌+◌, ◌<◌, ◌≡◌, refl, sym, ◌∙◌, ap, List, [], ◌∷◌, ◌++◌, Option, None, Some, Result, length, take, map, get_or, arith}
use Rattle.std.proofs.lemmas.List.{take_more, length-take-le, append-nil, append_assoc}
use Rattle.std.proofs.Output.{then_text_assoc, displays_on_ok_of_eq}
use Rattle.std.specs.List.{flat_map, join_by}
use Rattle.std.specs.Fmt.{◌++?◌, DisplaysOnOk}
use Rattle.std.specs.declared.fmt.Formatter.{Formatter}
use Rattle.std.specs.declared.fmt.Error.{Error}
use Rattle.wgsl_model.specs.Printed.Joining.{joined}
use Rattle.wgsl_writer.specs.Joined.{further_output, joined_output}

-- what is before the item at an index
abbrev pub before : List ℕ → ℕ → List ℕ
before separator zero = []
before separator (suc k) = separator

pub before_next : (sep : List ℕ) (k : ℕ) → before sep (k + 1) ≡ sep
before_next sep k = let e : k + 1 ≡ suc k = omega arith in ap (before sep) e

-- a list of items that may have no text, one more at a time

none_last : (t : Option (List ℕ)) → t ++? Some [] ≡ Some [] ++? (Some [] ++? t)
none_last None = refl
none_last (Some t) = ap (λ u. Some u) (append-nil t)

rest_last : (sep : List ℕ) (t : Option (List ℕ)) → Some sep ++? (t ++? Some []) ≡ Some [] ++? (Some sep ++? t)
rest_last sep None = refl
rest_last sep (Some t) = ap (λ u. Some (sep ++ u)) (append-nil t)

further_output_append : {X : Type 0} (o : X → Option (List ℕ)) (sep : List ℕ) (xs : List X) (x : X)
    → further_output o sep (xs ++ (x ∷ [])) ≡ further_output o sep xs ++? (Some sep ++? o x)
further_output_append o sep [] x = rest_last sep (o x)
further_output_append o sep (y ∷ xs) x =
    ap (λ u. Some sep ++? (o y ++? u)) (further_output_append o sep xs x)
    ∙ ap (λ u. Some sep ++? u) (sym (then_text_assoc (o y) (further_output o sep xs) (Some sep ++? o x)))
    ∙ sym (then_text_assoc (Some sep) (o y ++? further_output o sep xs) (Some sep ++? o x))

joined_output_append : {X : Type 0} (o : X → Option (List ℕ)) (sep : List ℕ) (xs : List X) (x : X)
    → joined_output o sep (xs ++ (x ∷ [])) ≡ joined_output o sep xs ++? (Some (before sep (length xs)) ++? o x)
joined_output_append o sep [] x = none_last (o x)
joined_output_append o sep (y ∷ xs) x =
    ap (λ u. o y ++? u) (further_output_append o sep xs x)
    ∙ sym (then_text_assoc (o y) (further_output o sep xs) (Some sep ++? o x))
    ∙ ap (λ s. (o y ++? further_output o sep xs) ++? (Some s ++? o x)) refl

pub joined_output_more : {X : Type 0} (o : X → Option (List ℕ)) (sep : List ℕ) (xs : List X) (k : ℕ) (x : X)
    → k < length xs → x ≡ get_or xs k x
    → joined_output o sep (take (k + 1) xs) ≡ joined_output o sep (take k xs) ++? (Some (before sep k) ++? o x)
joined_output_more o sep xs k x h e =
    ap (joined_output o sep) (take_more xs k x h ∙ ap (λ z. take k xs ++ (z ∷ [])) (sym e))
    ∙ joined_output_append o sep (take k xs) x
    ∙ ap (λ n. joined_output o sep (take k xs) ++? (Some (before sep n) ++? o x))
    (length-take-le k xs (omega (arith, h)))

-- where each item has a text

further_output_some : {X : Type 0} (t : X → List ℕ) (sep : List ℕ) (xs : List X)
    → further_output (λ x. Some (t x)) sep xs ≡ Some (flat_map (λ x. sep ++ t x) xs)
further_output_some t sep [] = refl
further_output_some t sep (x ∷ xs) =
    ap (λ u. Some sep ++? (Some (t x) ++? u)) (further_output_some t sep xs)
    ∙ ap (λ u. Some u) (sym (append_assoc sep (t x) (flat_map (λ u. sep ++ t u) xs)))

pub joined_output_some : {X : Type 0} (t : X → List ℕ) (sep : List ℕ) (xs : List X)
    → joined_output (λ x. Some (t x)) sep xs ≡ Some (join_by t sep xs)
joined_output_some t sep [] = refl
joined_output_some t sep (x ∷ xs) = ap (λ u. Some (t x) ++? u) (further_output_some t sep xs)

-- where each item is seen and has a text, the output is those texts joined

module _ {X View : Type 0} (view : X → View) (text : View → List ℕ) (separator : List ℕ) where
  further_texts : (xs : List X)
      → flat_map (λ x. separator ++ text (view x)) xs ≡ flat_map (λ t. separator ++ t) (map text (map view xs))
  further_texts [] = refl
  further_texts (x ∷ xs) = ap (λ u. (separator ++ text (view x)) ++ u) (further_texts xs)

  joined_texts : (xs : List X) → joined_output (λ x. Some (text (view x))) separator xs
      ≡ Some (joined separator (map text (map view xs)))
  joined_texts [] = refl
  joined_texts (x ∷ xs) = joined_output_some (λ x. text (view x)) separator (x ∷ xs)
      ∙ ap (λ u. Some (text (view x) ++ u)) (further_texts xs)

  pub displays_joined : {W : Type 0} (took : W → List ℕ → W → Type 0) (xs ys : List X) → xs ≡ ys
      → (start end : Formatter W) (r : Result (Unit {0}) Error)
      → DisplaysOnOk took start r (joined_output (λ x. Some (text (view x))) separator xs) end
      → DisplaysOnOk took start r (Some (joined separator (map text (map view ys)))) end
  displays_joined took xs ys same start end r shown = displays_on_ok_of_eq took start end r _ _
      (joined_texts xs ∙ ap (λ zs. Some (joined separator (map text (map view zs)))) same) shown
