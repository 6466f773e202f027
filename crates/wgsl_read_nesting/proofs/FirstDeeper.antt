-- The first token after which more than a number are open.
use Rattle.std.proofs.Common.{◌≡◌, ◌≤◌, ◌<◌, ℕ, Bool, true, false, nat_lt, if◌then◌else◌, List, [], ◌∷◌, ◌++◌, length, map, refl, sym, ap, subst, arith}
use Rattle.std.specs.Prelude.{Option, Some, None, option_map}
use Rattle.std.proofs.lemmas.Bool.Decides.{nat_tests}
use Rattle.grammar.specs.Tokens.{Token}
use Rattle.grammar.specs.Tokens as plain
use Rattle.wgsl_model.specs.Faults.Kinds.{span_of_token}
use Rattle.wgsl_read_nesting.specs.declared.open.Open.{Open}
use Rattle.wgsl_read_nesting.specs.Nesting.{deepest, open_after, is_operand_end}
use Rattle.wgsl_read_nesting.specs.Deeper.{first_deeper, IsFirstDeeper}

-- how deep tokens nest from a state on
abbrev from_state : Bool → List Open → List Token → ℕ
from_state after_operand opened ts = deepest after_operand opened (map (λ (t : Token). t.class) ts)

-- the same of a state as of the start
abbrev Splits : ℕ → Bool → List Open → List Token → Token → Type 0
Splits depth after_operand opened ts t = (before following : List Token) × (ts ≡ before ++ t ∷ following)
    × (from_state after_operand opened before ≤ depth)
    × (depth < from_state after_operand opened (before ++ t ∷ []))

not_deeper : (depth : ℕ) (after_operand : Bool) (opened : List Open) (ts : List Token) → length opened ≤ depth
    → first_deeper depth after_operand opened ts ≡ None → from_state after_operand opened ts ≤ depth
not_deeper depth after_operand opened [] h e = h
not_deeper depth after_operand opened (t ∷ ts) h e =
    go (not_deeper depth (is_operand_end t.class) next ts) (nat_lt depth (length next)) refl e
  where
    next : List Open
    next = open_after after_operand t.class opened

    go : (length next ≤ depth → first_deeper depth (is_operand_end t.class) next ts ≡ None
        → from_state (is_operand_end t.class) next ts ≤ depth)
        → (b : Bool) → nat_lt depth (length next) ≡ b
        → (if b then Some t else first_deeper depth (is_operand_end t.class) next ts) ≡ None
        → from_state after_operand opened (t ∷ ts) ≤ depth
    go rest true p f = absurd cc
    go rest false p f =
        let here : length next ≤ depth = grind (arith, nat_tests) in omega (arith, h, rest here f)

deeper : (depth : ℕ) (after_operand : Bool) (opened : List Open) (ts : List Token) (u : Token)
    → length opened ≤ depth → first_deeper depth after_operand opened ts ≡ Some u
    → Splits depth after_operand opened ts u
deeper depth after_operand opened [] u h e = absurd cc
deeper depth after_operand opened (t ∷ ts) u h e =
    go (deeper depth (is_operand_end t.class) next ts u) (nat_lt depth (length next)) refl e
  where
    next : List Open
    next = open_after after_operand t.class opened

    go : (length next ≤ depth → first_deeper depth (is_operand_end t.class) next ts ≡ Some u
        → Splits depth (is_operand_end t.class) next ts u)
        → (b : Bool) → nat_lt depth (length next) ≡ b
        → (if b then Some t else first_deeper depth (is_operand_end t.class) next ts) ≡ Some u
        → Splits depth after_operand opened (t ∷ ts) u
    go rest true p f =
        let here : depth < length next = grind (arith, nat_tests) in
        let same : t ≡ u = cc in
        subst (Splits depth after_operand opened (t ∷ ts)) same ([], ts, refl, h, omega (arith, here))
    go rest false p f =
        let here : length next ≤ depth = grind (arith, nat_tests) in
        let s = rest here f in (
          t ∷ s.0,
          s.1,
          ap (λ (us : List Token). t ∷ us) s.2,
          omega (arith, h, s.3),
          omega (arith, s.4),
        )

pub found : (depth : ℕ) (ts : List Token) (span : Option plain.Span)
    → span ≡ option_map span_of_token (first_deeper depth false [] ts) → IsFirstDeeper depth ts span
found depth ts span e = subst (IsFirstDeeper depth ts) (sym e) (go (first_deeper depth false [] ts) refl)
  where
    go : (m : Option Token) → first_deeper depth false [] ts ≡ m
        → IsFirstDeeper depth ts (option_map span_of_token m)
    go None e = not_deeper depth false [] ts (omega arith) e
    go (Some t) e = let s = deeper depth false [] ts t (omega arith) e in (s.0, s.1, t, s.2, refl, s.3, s.4)
