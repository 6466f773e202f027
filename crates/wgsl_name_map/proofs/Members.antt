-- The members of an object, one more at a time.
use Rattle.std.proofs.Common.{ℕ, ◌+◌, ◌<◌, ◌≤◌, ◌≡◌, refl, sym, ap, ◌∙◌, List, [], ◌∷◌, ◌++◌, None, Some, codes, get_or, length, take, append_assoc, append-nil, arith}
use Rattle.std.specs.List.{flat_map, join_by, slice_get}
use Rattle.std.proofs.lemmas.List.{length-take-le, take_all, take_more}
use Rattle.std.proofs.lemmas.Grind.{flat_map-append}
use Rattle.std.proofs.lemmas.Option.{get_or_from_slice_get, none-some, slice_get-get_or, slice_get_within}
use Rattle.wgsl_writer.proofs.Joins.{before}
use Rattle.wgsl_name_map.specs.Maps.{map_form, member}

four : (a b c d : List ℕ) → a ++ (b ++ (c ++ d)) ≡ ((a ++ b) ++ c) ++ d
four a b c d = simp append_assoc

-- one item more
joined_append : {X : Type 0} (f : X → List ℕ) (sep : List ℕ) (xs : List X) (x : X) →
    join_by f sep (xs ++ (x ∷ [])) ≡ join_by f sep xs ++ before sep (length xs) ++ f x
joined_append f sep [] x = append-nil (f x)
joined_append f sep (y ∷ xs) x =
    ap (λ u. f y ++ u) (flat_map-append (λ z. sep ++ f z) xs (x ∷ []))
    ∙ ap (λ u. f y ++ (flat_map (λ z. sep ++ f z) xs ++ u)) (append-nil (sep ++ f x))
    ∙ four (f y) (flat_map (λ z. sep ++ f z) xs) sep (f x)

joined_more : {X : Type 0} (f : X → List ℕ) (sep : List ℕ) (xs : List X) (k : ℕ) (x : X) →
    k < length xs → x ≡ get_or xs k x →
    (join_by f sep (take k xs) ++ before sep k) ++ f x ≡ join_by f sep (take (k + 1) xs)
joined_more f sep xs k x h e =
    ap (λ n. (join_by f sep (take k xs) ++ before sep n) ++ f x) (sym (length-take-le k xs (omega
    (arith, h))))
    ∙ sym (joined_append f sep (take k xs) x)
    ∙ ap (join_by f sep) (ap (λ z. take k xs ++ (z ∷ [])) e ∙ sym (take_more xs k x h))

grouped : (a b c d : List ℕ) → ((a ++ b) ++ c) ++ d ≡ a ++ ((b ++ c) ++ d)
grouped a b c d = simp append_assoc

-- all members between the brackets
pub all_written : (pairs : List (List ℕ × List ℕ)) (k : ℕ) → length pairs ≤ k →
    (codes "{" ++ join_by member (codes ",") (take k pairs)) ++ codes "}" ≡ map_form pairs
all_written pairs k all =
    ap (λ ps. (codes "{" ++ join_by member (codes ",") ps) ++ codes "}") (take_all k pairs all)
    ∙ append_assoc (codes "{") (join_by member (codes ",") pairs) (codes "}")

-- one member more
pub one_more : (pairs : List (List ℕ × List ℕ)) (k : ℕ) (name new : List ℕ) →
    slice_get pairs k ≡ Some (name, new) →
    ((codes "{" ++ join_by member (codes ",") (take k pairs)) ++ before (codes ",") k) ++ member (name, new)
    ≡ codes "{" ++ join_by member (codes ",") (take (k + 1) pairs)
one_more pairs k name new here =
    grouped (codes "{") (join_by member (codes ",") (take k pairs)) (before (codes ",") k) (member (name, new))
    ∙ ap (λ u. codes "{" ++ u) (joined_more member (codes ",") pairs k (name, new)
    (slice_get_within pairs k (name, new) here)
    (sym (get_or_from_slice_get pairs k (name, new) (name, new) here)))

-- there is a pair at each place
pub none_missing : (pairs : List (List ℕ × List ℕ)) (k : ℕ) → k < length pairs → None ≡ slice_get pairs k → ⊥
none_missing pairs k here none = none-some (get_or pairs k ([], []))
    (none ∙ slice_get-get_or pairs k ([], []) here)
