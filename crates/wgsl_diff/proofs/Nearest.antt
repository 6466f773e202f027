-- The nearest lines of two texts that are the same.
use Rattle.std.proofs.Common.{◌≡◌, ◌≢◌, ◌⊎◌, inl, inr, refl, sym, ap, ◌∙◌, ℕ, zero, suc, ◌+◌, ◌-◌, ◌<◌, ◌≤◌, Bool, true, false, nat_lt, List, [], ◌∷◌, length, take, drop, get_or, arith}
use Rattle.std.proofs.lemmas.Bool.Decides.{nat_tests}
use Rattle.std.proofs.lemmas.List.{get_or-drop, get_or-take, get_or_default, length-drop, length-map, length-take, take_all}
use Rattle.std.proofs.Math.ListN.{get_or-map}
use Rattle.std.specs.Borrow.{Bor}
use Rattle.wgsl_diff.specs.Diffs.{AreApart}
use Rattle.wgsl_diff.specs.Matching.{GoOn}
use Rattle.wgsl_diff.specs.View.{texts_of}

-- a text at a place
pub text_at : (texts : List (Bor (List ℕ))) (k : ℕ) (d : Bor (List ℕ)) → k < length texts
    → get_or (texts_of texts) k [] ≡ (get_or texts k d).now
text_at texts k d within =
    let long : length (texts_of texts) ≡ length texts = length-map texts (λ text. text.now) in
    get_or_default (texts_of texts) k [] d.now (omega (arith, long, within))
    ∙ get_or-map (λ (text : Bor (List ℕ)). text.now) texts k d

-- lines are apart that have together fewer than this before them
abbrev pub Differ : List (List ℕ) → List (List ℕ) → ℕ → Type 0
Differ old new distance = (r a : ℕ) → r + a < distance → r < length old → a < length new
    → get_or old r [] ≢ get_or new a []

-- and so are those that have as many, where fewer than this are of the old text
abbrev pub DifferAt : List (List ℕ) → List (List ℕ) → ℕ → ℕ → Type 0
DifferAt old new distance most = (r a : ℕ) → r + a ≡ distance → r < most → r < length old → a < length new
    → get_or old r [] ≢ get_or new a []

-- both texts go on with the same line
pub go_on : (old new : List (List ℕ)) → 0 < length old → 0 < length new → get_or old 0 [] ≡ get_or new 0 []
    → GoOn old new
go_on [] new some others same = absurd (omega (arith, some))
go_on (line ∷ old) [] some others same = absurd (omega (arith, others))
go_on (line ∷ old) (other ∷ new) some others same = same

pub go_on_at : (old new : List (List ℕ)) (r a : ℕ) → r < length old → a < length new
    → get_or old r [] ≡ get_or new a [] → GoOn (drop r old) (drop a new)
go_on_at old new r a within others same =
    let left = length-drop r old in
    let right = length-drop a new in
    let first : r + 0 ≡ r = omega arith in
    let other : a + 0 ≡ a = omega arith in
    go_on (drop r old) (drop a new) (omega (arith, left, within)) (omega (arith, right, others))
    (get_or-drop r old 0 [] ∙ ap (λ k. get_or old k []) first ∙ same
    ∙ sym (get_or-drop a new 0 [] ∙ ap (λ k. get_or new k []) other))

-- where they do not at places, what they have there is apart
pub texts_differ : (before after : List (Bor (List ℕ))) (r a : ℕ) (d e : Bor (List ℕ))
    → (r < length before → a < length after → (get_or before r d).now ≢ (get_or after a e).now)
    → r < length (texts_of before) → a < length (texts_of after)
    → get_or (texts_of before) r [] ≢ get_or (texts_of after) a []
texts_differ before after r a d e other within others same =
    let long = length-map before (λ text. text.now) in
    let many = length-map after (λ text. text.now) in
    let in_old : r < length before = omega (arith, long, within) in
    let in_new : a < length after = omega (arith, many, others) in
    other in_old in_new (sym (text_at before r d in_old) ∙ same ∙ text_at after a e in_new)

-- lines that both texts go on with are the same
first_same : (old new : List (List ℕ)) → GoOn old new
    → (0 < length old) × (0 < length new) × (get_or old 0 [] ≡ get_or new 0 [])
first_same [] new goes = absurd goes
first_same (line ∷ old) [] goes = absurd goes
first_same (line ∷ old) (other ∷ new) goes = (omega arith, omega arith, goes)

-- what is left of two texts goes on with other lines
pub rest_differs : (before after us vs : List (Bor (List ℕ))) (i j : ℕ) (d e : Bor (List ℕ))
    → us ≡ drop i before → vs ≡ drop j after
    → (i < length before → j < length after → (get_or before i d).now ≢ (get_or after j e).now)
    → ¬ (GoOn (texts_of us) (texts_of vs))
rest_differs before after us vs i j d e us_is vs_is other = λ goes.
    let left = ap length us_is ∙ length-drop i before in
    let right = ap length vs_is ∙ length-drop j after in
    let long = length-map us (λ text. text.now) in
    let many = length-map vs (λ text. text.now) in
    let first = first_same (texts_of us) (texts_of vs) goes in
    let at : i + 0 ≡ i = omega arith in
    let to : j + 0 ≡ j = omega arith in
    texts_differ us vs 0 0 d e (λ _ _ same.
    other (omega (arith, left, long, first.0)) (omega (arith, right, many, first.1))
    (ap (λ x. x.now) (sym (ap (λ xs. get_or xs 0 d) us_is ∙ get_or-drop i before 0 d ∙ ap (λ k. get_or before k d) at))
    ∙ same
    ∙ ap (λ x. x.now) (ap (λ xs. get_or xs 0 e) vs_is ∙ get_or-drop j after 0 e ∙ ap (λ k. get_or after k e) to)))
    first.0 first.1 first.2

-- nor where one of them has ended
pub rest_ends : (before after us vs : List (Bor (List ℕ))) (i j : ℕ) → us ≡ drop i before → vs ≡ drop j after
    → (length before ≤ i) ⊎ (length after ≤ j) → ¬ (GoOn (texts_of us) (texts_of vs))
rest_ends before after us vs i j us_is vs_is ends = λ goes.
    let left = ap length us_is ∙ length-drop i before in
    let right = ap length vs_is ∙ length-drop j after in
    let long = length-map us (λ text. text.now) in
    let many = length-map vs (λ text. text.now) in
    let first = first_same (texts_of us) (texts_of vs) goes in
    elim ends [
      | inl end ↦ omega (arith, left, long, first.0, end)
      | inr end ↦ omega (arith, right, many, first.1, end)
    ]

-- all texts that are left
pub left_is : (texts : List (Bor (List ℕ))) (i : ℕ) → take (length texts - i) (drop i texts) ≡ drop i texts
left_is texts i =
    let left = length-drop i texts in
    take_all (length texts - i) (drop i texts) (omega (arith, left))

-- where they do not go on with the same line, the first ones are apart
pub differ_first : (old new : List (List ℕ)) → ¬ (GoOn old new) → Differ old new 1
differ_first old new other zero zero near within others same = other (go_on old new within others same)
differ_first old new other zero (suc a) near within others same = omega (arith, near)
differ_first old new other (suc r) a near within others same = omega (arith, near)

-- one more pair of lines
pub differ_more : (old new : List (List ℕ)) (distance r : ℕ) → r ≤ distance → DifferAt old new distance r
    → (r < length old → distance - r < length new → get_or old r [] ≢ get_or new (distance - r) [])
    → DifferAt old new distance (r + 1)
differ_more old new distance r low so_far one k l sum below within others same = go (nat_lt k r) refl
  where
    go : (b : Bool) → nat_lt k r ≡ b → ⊥
    go true less = so_far k l sum (grind (arith, nat_tests)) within others same
    go false last =
        let at : k ≡ r = grind (arith, nat_tests) in
        let to : l ≡ distance - r = omega (arith, sum, at) in
        one (omega (arith, at, within)) (omega (arith, to, others))
        (ap (λ n. get_or old n []) (sym at) ∙ same ∙ ap (λ n. get_or new n []) to)

-- all pairs at a distance
pub differ_next : (old new : List (List ℕ)) (distance most : ℕ) → distance < most → Differ old new distance
    → DifferAt old new distance most → Differ old new (distance + 1)
differ_next old new distance most past so_far all k l near within others same = go (nat_lt (k + l) distance) refl
  where
    go : (b : Bool) → nat_lt (k + l) distance ≡ b → ⊥
    go true less = so_far k l (grind (arith, nat_tests)) within others same
    go false last =
        let sum : k + l ≡ distance = grind (arith, nat_tests) in
        all k l sum (omega (arith, sum, past)) within others same

-- the lines before the nearest that are the same are apart
pub apart_before : (old new : List (List ℕ)) (distance r a : ℕ) → Differ old new distance → r + a ≤ distance + 1
    → AreApart (take r old) (take a new)
apart_before old new distance r a differ near = λ k d within among.
    let long = length-take r old in
    let many = length-take a new in
    let l = among.0 in
    let below : k < r = omega (arith, long, within) in
    let under : l < a = omega (arith, many, among.1) in
    let in_old : k < length old = omega (arith, long, within) in
    let in_new : l < length new = omega (arith, many, among.1) in
    differ k l (omega (arith, below, under, near)) in_old in_new
    (get_or_default old k [] d in_old ∙ sym (get_or-take r old k d below) ∙ sym among.2
    ∙ get_or-take a new l _ under ∙ get_or_default new l _ [] in_new)
