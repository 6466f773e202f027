-- Tests of the next token, kind by kind.
use Rattle.std.proofs.Common.{◌≡◌, ℕ, ◌+◌, ◌<◌, ◌≤◌, Bool, true, false, cond, ◌||◌, List, [], ◌∷◌, length, drop, get_or, drop-cons, add-one, refl, sym, ap, ◌∙◌}
use Rattle.std.specs.List.{list_any}
use Rattle.std.proofs.lemmas.List.{drop_all}
use Rattle.grammar.specs.Tokens.{Token}
use Rattle.grammar.specs.States.{State, Read, Read.done, first_of, after, refused_at, refused, is_at, is_any, take, take_any}
use Rattle.wgsl_lex_token.specs.declared.kind_table.TokenKind.{TokenKind}
use Rattle.wgsl_lex_token.specs.View.{class_of_kind, classes}
use Rattle.wgsl_read_cursor.specs.declared.fault.Fault.{Fault}
use Rattle.wgsl_read_cursor.specs.declared.fault.Fault.TheVariants as fault
use Rattle.wgsl_read_cursor.specs.Reading.{Fails}
use Rattle.wgsl_read_dialect.specs.Following.{forgotten}

or_is : (a b : Bool) → a || b ≡ cond a true b
or_is true b = refl
or_is false b = refl

or_none : (a : Bool) → a || false ≡ a
or_none true = refl
or_none false = refl

pub any_is : (kinds : List TokenKind) (s : State)
    → list_any (λ kind. is_at (class_of_kind kind) s) kinds ≡ is_any (classes kinds) s
any_is [] s = refl
any_is (kind ∷ []) s = or_none (is_at (class_of_kind kind) s)
any_is (kind ∷ (next ∷ kinds)) s =
    or_is (is_at (class_of_kind kind) s) _
    ∙ ap (λ (x : Bool). cond (is_at (class_of_kind kind) s) true x) (any_is (next ∷ kinds) s)

-- a kind that the next token is not of
pub skipped : (c : ℕ) (cs : List ℕ) (s : State) → is_at c s ≡ false → take_any (c ∷ cs) s ≡ take_any cs s
unfolding take
skipped c [] s e = ap (λ (x : Bool). cond x (done (first_of s) (after s)) (refused s)) e
skipped c (d ∷ []) s e = ap (λ (x : Bool). cond (cond x true (is_at d s)) (done (first_of s) (after s)) (refused s)) e
skipped c (d ∷ (b ∷ cs)) s e =
    ap (λ (x : Bool). cond (cond x true (is_any (d ∷ (b ∷ cs)) s)) (done (first_of s) (after s)) (refused s)) e

-- the kind that it is of
pub taken : (c : ℕ) (cs : List ℕ) (s : State) → is_at c s ≡ true → take_any (c ∷ cs) s ≡ done (first_of s) (after s)
unfolding take
taken c [] s e = ap (λ (x : Bool). cond x (done (first_of s) (after s)) (refused s)) e
taken c (d ∷ cs) s e =
    ap (λ (x : Bool). cond (cond x true (is_any (d ∷ cs) s)) (done (first_of s) (after s)) (refused s)) e

-- the kind at a place, and those after it
at_place : (kinds : List TokenKind) (i : ℕ) (d : TokenKind) → i < length kinds
    → classes (drop i kinds) ≡ class_of_kind (get_or kinds i d) ∷ classes (drop (i + 1) kinds)
at_place kinds i d h = ap classes (drop-cons kinds i d h)
    ∙ ap (λ (j : ℕ). class_of_kind (get_or kinds i d) ∷ classes (drop j kinds)) (sym (add-one i))

pub next_kind : (kinds : List TokenKind) (i : ℕ) (d : TokenKind) (s : State) → i < length kinds
    → is_at (class_of_kind (get_or kinds i d)) s ≡ false
    → take_any (classes (drop (i + 1) kinds)) s ≡ take_any (classes (drop i kinds)) s
next_kind kinds i d s h e = sym (ap (λ (cs : List ℕ). take_any cs s) (at_place kinds i d h) ∙ skipped _ _ s e)

pub this_kind : (kinds : List TokenKind) (i : ℕ) (d : TokenKind) (s : State) → i < length kinds
    → is_at (class_of_kind (get_or kinds i d)) s ≡ true
    → take_any (classes (drop i kinds)) s ≡ done (first_of s) (after s)
this_kind kinds i d s h e = ap (λ (cs : List ℕ). take_any cs s) (at_place kinds i d h) ∙ taken _ _ s e

pub no_kind : (kinds : List TokenKind) (i : ℕ) (s : State) → length kinds ≤ i
    → take_any (classes (drop i kinds)) s ≡ refused s
no_kind kinds i s h = ap (λ (xs : List TokenKind). take_any (classes xs) s) (drop_all i kinds h)

-- what fails, with its value forgotten
pub fails_forgotten : {A : Type 0} (e : Fault) (m : Read A) → Fails e m → Fails e (forgotten m)
fails_forgotten (fault.Refused refusal) m h = ap (λ (r : Read _). forgotten r) h
fails_forgotten fault.OutOfMemory m h = tt

pub refused_forgotten : (A : Type 0) (s : State) → forgotten (refused {A = A} s) ≡ refused s
refused_forgotten A s = by_rest s.end s.rest
  where
    by_rest : (end : ℕ) (ts : List Token) → forgotten (refused_at {A = A} end ts) ≡ refused_at end ts
    by_rest end [] = refl
    by_rest end (t ∷ ts) = refl
