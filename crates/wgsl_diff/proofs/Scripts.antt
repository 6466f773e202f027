-- Lines of a diff before those that are left.
use Rattle.std.proofs.Common.{◌≡◌, ◌⊎◌, inl, inr, refl, ap, ◌∙◌, subst, ℕ, ◌≤◌, Bool, true, false, nat_le, List, [], ◌∷◌, ◌++◌, length, map, take, drop, arith}
use Rattle.std.proofs.lemmas.Bool.Decides.{nat_tests}
use Rattle.std.proofs.lemmas.List.{append-nil, take-append-le, take-append-drop, length-take-le, drop_all}
use Rattle.std.proofs.lemmas.List.Elements.{All-nil, All-take, All-weaker, Contains-append_left}
use Rattle.std.specs.List.{Contains}
use Rattle.wgsl_diff.specs.Diffs.{Line, kept, removed, added, old_lines, new_lines, removed_first, added_first, AreApart, AllBeginApart, IsScript}
use Rattle.wgsl_diff.specs.Matching.{GoOn, IsBlock}

-- the first line is one that both texts have
abbrev pub BeginsKept : List Line → Type 0
BeginsKept [] = ⊥
BeginsKept (kept text ∷ lines) = Unit {0}
BeginsKept (removed text ∷ lines) = ⊥
BeginsKept (added text ∷ lines) = ⊥

-- all lines of what is left of two texts, of which the first is kept if both go on with it
pub record Completes (old new : List (List ℕ)) (lines : List Line) : Type 0 where
  pub script : IsScript old new lines
  pub keeps : GoOn old new → BeginsKept lines

-- nothing is left
pub no_line : Completes [] [] []
no_line = record {
  script = record { has_old = refl; has_new = refl; front = All-nil _; each = tt };
  keeps = λ goes. absurd goes;
}

-- after a line that both texts have
pub kept_step : (text : List ℕ) (old new : List (List ℕ)) (more : List Line) → Completes old new more
    → Completes (text ∷ old) (text ∷ new) (kept text ∷ more)
kept_step text old new more c = record {
  script = record {
    has_old = ap (λ ls. text ∷ ls) c.script.has_old;
    has_new = ap (λ ls. text ∷ ls) c.script.has_new;
    front = All-nil _;
    each = (c.script.front, c.script.each);
  };
  keeps = λ _. tt;
}

-- what lines of a change add to those after them
record Changes (rs ns : List (List ℕ)) (more lines : List Line) : Type 0 where
  removed_is : removed_first lines ≡ rs ++ removed_first more
  added_is : added_first lines ≡ ns ++ added_first more
  old_is : old_lines lines ≡ rs ++ old_lines more
  new_is : new_lines lines ≡ ns ++ new_lines more
  changes : AllBeginApart more → AllBeginApart lines

adds : (ns : List (List ℕ)) (more : List Line) → Changes [] ns more (map added ns ++ more)
adds [] more = record { removed_is = refl; added_is = refl; old_is = refl; new_is = refl; changes = λ all. all }
adds (n ∷ ns) more =
    let c = adds ns more in
    record {
      removed_is = c.removed_is;
      added_is = ap (λ ls. n ∷ ls) c.added_is;
      old_is = c.old_is;
      new_is = ap (λ ls. n ∷ ls) c.new_is;
      changes = c.changes;
    }

removes : (rs ns : List (List ℕ)) (more : List Line) → Changes rs ns more (map removed rs ++ (map added ns ++ more))
removes [] ns more = adds ns more
removes (r ∷ rs) ns more =
    let c = removes rs ns more in
    record {
      removed_is = ap (λ ls. r ∷ ls) c.removed_is;
      added_is = c.added_is;
      old_is = ap (λ ls. r ∷ ls) c.old_is;
      new_is = c.new_is;
      changes = c.changes;
    }

-- no line is removed where none of the old text is left, and none is added where none of the new is
none_removed : (lines : List Line) → old_lines lines ≡ [] → removed_first lines ≡ []
none_removed [] none = refl
none_removed (kept text ∷ lines) none = refl
none_removed (removed text ∷ lines) none = cc
none_removed (added text ∷ lines) none = none_removed lines none

none_added : (lines : List Line) → new_lines lines ≡ [] → added_first lines ≡ []
none_added [] none = refl
none_added (kept text ∷ lines) none = refl
none_added (removed text ∷ lines) none = none_added lines none
none_added (added text ∷ lines) none = cc

-- nor is one before a line that both texts have
none_changed : (lines : List Line) → BeginsKept lines → (removed_first lines ≡ []) × (added_first lines ≡ [])
none_changed [] begins = absurd begins
none_changed (kept text ∷ lines) begins = (refl, refl)
none_changed (removed text ∷ lines) begins = absurd begins
none_changed (added text ∷ lines) begins = absurd begins

-- the first 32 of some lines and others
first_of : (xs ys : List (List ℕ)) → (32 ≤ length xs) ⊎ (ys ≡ []) → take 32 (xs ++ ys) ≡ take 32 xs
first_of xs ys (inl long) = take-append-le 32 xs ys long
first_of xs ys (inr none) = ap (λ zs. take 32 (xs ++ zs)) none ∙ ap (take 32) (append-nil xs)

-- the first lines of those that are apart are apart
apart_first : (xs ys : List (List ℕ)) → AreApart xs ys → AreApart (take 32 xs) (take 32 ys)
apart_first xs ys apart =
    All-weaker (λ x. ¬ (Contains ys x)) (λ x. ¬ (Contains (take 32 ys) x))
    (λ x other among. other (subst (λ zs. Contains zs x) (take-append-drop 32 ys)
    (Contains-append_left (take 32 ys) (drop 32 ys) x among)))
    (take 32 xs) (All-take (λ x. ¬ (Contains ys x)) 32 xs apart)

-- a block of lines has 32, or is all that is left
block_ends : (r : ℕ) (lines : List (List ℕ)) → IsBlock r (length lines)
    → (32 ≤ length (take r lines)) ⊎ (drop r lines ≡ [])
block_ends r lines is = go (nat_le 32 (length lines)) refl
  where
    go : (b : Bool) → nat_le 32 (length lines) ≡ b → (32 ≤ length (take r lines)) ⊎ (drop r lines ≡ [])
    go true long =
        let within : r ≤ length lines = grind (arith, nat_tests) in
        let whole = length-take-le r lines within in
        inl (grind (arith, nat_tests))
    go false short = inr (drop_all r lines (grind (arith, nat_tests)))

-- the lines of a change before others are the first 32 that are changed, or no more are
sides : (r a : ℕ) (old new : List (List ℕ)) (more : List Line) → Completes (drop r old) (drop a new) more
    → GoOn (drop r old) (drop a new) ⊎ (IsBlock r (length old) × IsBlock a (length new))
    → ((32 ≤ length (take r old)) ⊎ (removed_first more ≡ []))
    × ((32 ≤ length (take a new)) ⊎ (added_first more ≡ []))
sides r a old new more c (inl goes) =
    let none = none_changed more (c.keeps goes) in
    (inr none.0, inr none.1)
sides r a old new more c (inr blocks) = (
  elim (block_ends r old blocks.0)
      [ inl long ↦ inl long | inr none ↦ inr (none_removed more (c.script.has_old ∙ none)) ],
  elim (block_ends a new blocks.1)
      [ inl long ↦ inl long | inr none ↦ inr (none_added more (c.script.has_new ∙ none)) ],
)

-- after lines that one of the texts has
pub change_step : (r a : ℕ) (old new : List (List ℕ)) (more : List Line)
    → Completes (drop r old) (drop a new) more
    → AreApart (take r old) (take a new) → ¬ (GoOn old new)
    → GoOn (drop r old) (drop a new) ⊎ (IsBlock r (length old) × IsBlock a (length new))
    → Completes old new (map removed (take r old) ++ (map added (take a new) ++ more))
change_step r a old new more c apart other ends =
    let all = removes (take r old) (take a new) more in
    let long = sides r a old new more c ends in
    let removed_are = ap (take 32) all.removed_is ∙ first_of (take r old) (removed_first more) long.0 in
    let added_are = ap (take 32) all.added_is ∙ first_of (take a new) (added_first more) long.1 in
    record {
      script = record {
        has_old = all.old_is ∙ ap (λ ls. take r old ++ ls) c.script.has_old ∙ take-append-drop r old;
        has_new = all.new_is ∙ ap (λ ls. take a new ++ ls) c.script.has_new ∙ take-append-drop a new;
        front = rw (removed_are, added_are) (apart_first (take r old) (take a new) apart);
        each = all.changes c.script.each;
      };
      keeps = λ goes. absurd (other goes);
    }
