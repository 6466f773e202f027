-- What may be left out, and lists with a separator.
use Rattle.std.proofs.Common.{ℕ, ◌≡◌, refl, sym, ap, ◌∙◌, List, [], ◌∷◌, ◌++◌, map, Option, None, Some, codes}
use Rattle.std.proofs.lemmas.List.{append_assoc, append-nil}
use Rattle.wgsl_model.specs.Printed.Joining.{joined}
use Rattle.wgsl_model_packed.specs.Rules.{nothing_rule}
use Rattle.wgsl_model_packed.specs.Printing.{text_of_rule}
use Rattle.wgsl_model_packed.specs.Expressions.{packed_optional, packed_items, packed_list}
use Rattle.wgsl_theory_packed.specs.Shown.{Shows}
use Rattle.wgsl_theory_packed.proofs.Shown.{◌▸◌, shown_as, shown_nothing, shown_rule}

-- what is left out, or a list without items
pub shown_none : {d : ℕ} → Shows d (codes "$") (nothing_rule ∷ []) []
shown_none = shown_rule refl shown_nothing

-- what may be left out, after the number of a rule
pub shows_optional : {X : Type 0} {d : ℕ} {places : List ℕ} {packed : X → List ℕ}
    (n : ℕ) (print : Option X → List ℕ) → text_of_rule n ≡ Some places → print None ≡ [] →
    ((x : X) → Shows d places (packed x) (print (Some x))) →
    (o : Option X) → Shows d (codes "$") (packed_optional n packed o) (print o)
shows_optional n print is none item None = shown_as (sym none) shown_none
shows_optional n print is none item (Some x) = shown_rule is (item x)

-- items, with a separator between each two and an end after the last
pub shows_items : {X : Type 0} {d : ℕ} {places : List ℕ} {packed print : X → List ℕ}
    (before last : ℕ) (separator end : List ℕ)
    → text_of_rule before ≡ Some (places ++ (separator ++ codes "$"))
    → text_of_rule last ≡ Some (places ++ end) → Shows d separator [] separator → Shows d end [] end
    → ((x : X) → Shows d places (packed x) (print x))
    → (x : X) (xs : List X) → Shows d (codes "$") (packed_items before last packed (x ∷ xs))
    (joined separator (map print (x ∷ xs)) ++ end)
shows_items {print = print} before last separator end more ends between after item x [] =
    shown_rule ends (shown_as (ap (λ t. t ++ end) (sym (append-nil (print x)))) (item x ▸ after))
shows_items before last separator end more ends between after item x (y ∷ ys) =
    shown_rule more (shown_as (simp append_assoc) (item x ▸ between
    ▸ shows_items before last separator end more ends between after item y ys))

-- a list of items, with a separator between each two
pub shows_list : {X : Type 0} {d : ℕ} {places : List ℕ} {packed print : X → List ℕ}
    (before last : ℕ) (separator : List ℕ)
    → text_of_rule before ≡ Some (places ++ (separator ++ codes "$"))
    → text_of_rule last ≡ Some places → Shows d separator [] separator
    → ((x : X) → Shows d places (packed x) (print x))
    → (xs : List X) → Shows d (codes "$") (packed_list nothing_rule before last packed xs)
    (joined separator (map print xs))
shows_list before last separator more ends between item [] = shown_none
shows_list {places = places} {print = print} before last separator more ends between item (x ∷ xs) =
    shown_as (append-nil (joined separator (map print (x ∷ xs))))
    (shows_items before last separator [] more (ends ∙ ap (λ p. Some p) (sym (append-nil places)))
    between shown_nothing item x xs)
