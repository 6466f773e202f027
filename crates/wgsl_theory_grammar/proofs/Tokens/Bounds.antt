-- How far the template lists inside a text are bounded makes no difference.
use Rattle.std.proofs.Common.{◌↔◌, ℕ, zero, suc, ◌<◌, ◌≤◌, List, [], ◌∷◌, drop, length, arith}
use Rattle.grammar.specs.Tokens.{Token}
use Rattle.wgsl_model.specs.Tokens.Templates.{TemplateRelation, Inside, at_greater, at_opening, at_closing, at_template, at_other, Enclosed, enclosed, TemplateUpTo, Template}
use Rattle.wgsl_theory_grammar.proofs.Tokens.Cuts.{EndsWith, joined, cut_at, ends_length, shorter, after_token, after_first}

-- what follows a template list is an end of its text
abbrev pub LeavesEnd : TemplateRelation → Type 0
LeavesEnd R = (text : List ℕ) (ts : List Token) (rest : List ℕ) → R text ts rest → EndsWith text rest

-- two relations are the same of texts shorter than a bound
abbrev pub SameBelow : ℕ → TemplateRelation → TemplateRelation → Type 0
SameBelow k R S = (text : List ℕ) (ts : List Token) (rest : List ℕ) → length text < k → R text ts rest ↔ S text ts rest

-- the `>` after what is inside a template list begins an end of the text
pub inside_leaves : (total : ℕ) (R : TemplateRelation) → LeavesEnd R
    → (depth : ℕ) (text : List ℕ) (ts : List Token) (end : List ℕ)
    → Inside total R depth text ts end → EndsWith text end
inside_leaves total R s depth text ts end (at_greater t e after kind r g) = (cut_at text end after kind r).0
inside_leaves total R s depth text ts end (at_opening d t from after e kind us r g h) =
    joined text after end (after_token text from after kind r) (inside_leaves total R s (suc depth) after us end h)
inside_leaves total R s depth text ts end (at_closing d t from after e kind us r g h) =
    joined text after end (after_token text from after kind r) (inside_leaves total R s d after us end h)
inside_leaves total R s depth text ts end (at_template d t from after rest e kind us vs r w k h) =
    joined text after end (after_token text from after kind r)
    (joined after rest end (s after us rest k) (inside_leaves total R s depth rest vs end h))
inside_leaves total R s depth text ts end (at_other d t from after e kind us r g n h) =
    joined text after end (after_token text from after kind r) (inside_leaves total R s depth after us end h)

-- the same is inside, where the relations are the same of the texts after it
inside_same : (total k : ℕ) (R S : TemplateRelation) → LeavesEnd R → SameBelow k R S
    → (depth : ℕ) (text : List ℕ) (ts : List Token) (end : List ℕ) → length text ≤ k
    → Inside total R depth text ts end → Inside total S depth text ts end
inside_same total k R S s m depth text ts end le (at_greater t e after kind r g) = at_greater text end after kind r g
inside_same total k R S s m depth text ts end le (at_opening d t from after e kind us r g h) =
    at_opening depth text from after end kind us r g
    (inside_same total k R S s m (suc depth) after us end (omega (arith, shorter text from after kind r)) h)
inside_same total k R S s m depth text ts end le (at_closing d t from after e kind us r g h) =
    at_closing d text from after end kind us r g
    (inside_same total k R S s m d after us end (omega (arith, shorter text from after kind r)) h)
inside_same total k R S s m depth text ts end le (at_template d t from after rest e kind us vs r w q h) =
    let lt = shorter text from after kind r in
    at_template depth text from after rest end kind us vs r w
    ((m after us rest (omega (arith, lt))).0 q) (inside_same total k R S s m depth rest vs end
    (omega (arith, lt, ends_length after rest (s after us rest q))) h)
inside_same total k R S s m depth text ts end le (at_other d t from after e kind us r g n h) =
    let lt = shorter text from after kind r in
    at_other depth text from after end kind us r g
    (λ w vs rest q. n w vs rest ((m after vs rest (omega (arith, lt))).1 q))
    (inside_same total k R S s m depth after us end (omega (arith, lt)) h)

-- and so of a list with its marks
enclosed_same : (total : ℕ) (R S : TemplateRelation) (text : List ℕ) → LeavesEnd R
    → SameBelow (length text) R S → (ts : List Token) (rest : List ℕ)
    → Enclosed total R text ts rest → Enclosed total S text ts rest
enclosed_same total R S text s m ts rest (enclosed t from after end kind us v r c h d) =
    enclosed text from after end kind us v r c (inside_same total
    (length text) R S s m 0 after us end (omega (arith, shorter text from after kind r)) h) d

-- after a list with its marks is an end of the text
enclosed_leaves : (total : ℕ) (R : TemplateRelation) → LeavesEnd R → LeavesEnd (Enclosed total R)
enclosed_leaves total R s text ts rest (enclosed t from after end kind us v r c h d) =
    joined text after (drop 1 end) (after_token text from after kind r)
    (joined after end (drop 1 end) (inside_leaves total R s 0 after us end h) (after_first end))

pub up_to_leaves : (n total : ℕ) → LeavesEnd (TemplateUpTo n total)
up_to_leaves zero total text ts rest h = absurd h
up_to_leaves (suc n) total text ts rest h = enclosed_leaves total (TemplateUpTo n total)
    (up_to_leaves n total) text ts rest h

-- such a list has a character
enclosed_some : (total : ℕ) (R : TemplateRelation) (text : List ℕ) (ts : List Token) (rest : List ℕ)
    → Enclosed total R text ts rest → 0 < length text
enclosed_some total R text ts rest (enclosed t from after end kind us v r c h d) =
    omega (arith, shorter text from after kind r)

-- the other way round
turned : (k : ℕ) (R S : TemplateRelation) → SameBelow k R S → SameBelow k S R
turned k R S m text ts rest lt = let h = m text ts rest lt in (h.1, h.0)

-- no list is so short
none_so_short : (n total : ℕ) (text : List ℕ) (ts : List Token) (rest : List ℕ) → length text ≤ 0
    → TemplateUpTo n total text ts rest → ⊥
none_so_short zero total text ts rest le h = h
none_so_short (suc n) total text ts rest le h =
    absurd (omega (arith, enclosed_some total (TemplateUpTo n total) text ts rest h))

-- bounds that the text does not pass give the same
up_to_same : (n m total : ℕ) (text : List ℕ) (ts : List Token) (rest : List ℕ) → length text ≤ n
    → length text ≤ m → TemplateUpTo n total text ts rest ↔ TemplateUpTo m total text ts rest
up_to_same zero m total text ts rest ln lm = ((λ h. absurd h), (λ h. absurd (none_so_short m total text ts rest ln h)))
up_to_same (suc n) zero total text ts rest ln lm =
    ((λ h. absurd (none_so_short (suc n) total text ts rest lm h)), (λ h. absurd h))
up_to_same (suc n) (suc m) total text ts rest ln lm =
    let same : SameBelow (length text) (TemplateUpTo n total) (TemplateUpTo m total) =
    λ t us r lt. up_to_same n m total t us r (omega arith) (omega arith) in (
      enclosed_same total (TemplateUpTo n total) (TemplateUpTo m total) text
          (up_to_leaves n total) same ts rest,
      enclosed_same total (TemplateUpTo m total) (TemplateUpTo n total) text (up_to_leaves m total)
          (turned (length text) (TemplateUpTo n total) (TemplateUpTo m total) same) ts rest,
    )

pub template_leaves : (total : ℕ) → LeavesEnd (Template total)
template_leaves total text ts rest h = up_to_leaves (length text) total text ts rest h

-- a template list at the front of a text, as it is written
pub template_is : (total : ℕ) (text : List ℕ) (ts : List Token) (rest : List ℕ)
    → Template total text ts rest ↔ Enclosed total (Template total) text ts rest
template_is total [] ts rest =
    ((λ h. absurd h), (λ h. absurd (omega (arith, enclosed_some total (Template total) [] ts rest h))))
template_is total (c ∷ cs) ts rest =
    let n = length cs in
    let same : SameBelow (suc n) (TemplateUpTo n total) (Template total) =
    λ t us r lt. up_to_same n (length t) total t us r (omega arith) (omega arith) in (
      enclosed_same total (TemplateUpTo n total) (Template total) (c ∷ cs)
          (up_to_leaves n total) same ts rest,
      enclosed_same total (Template total) (TemplateUpTo n total) (c ∷ cs) (template_leaves total)
          (turned (suc n) (TemplateUpTo n total) (Template total) same) ts rest,
    )
