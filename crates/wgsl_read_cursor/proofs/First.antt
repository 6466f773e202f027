-- The first of the tokens that are left.
use Rattle.std.proofs.Common.{◌≡◌, ◌↔◌, ℕ, ◌<◌, true, false, List, [], ◌∷◌, length, eqb, ap, ap₂, sym, refl, IsTrue, Option, Some, None, arith}
use Rattle.std.proofs.lemmas.Bool.{eq-eqb}
use Rattle.std.specs.Prelude.{drop, is_none, option_map, MatchOption}
use Rattle.grammar.specs.Tokens.{Token}
use Rattle.grammar.specs.States.{is_first, first_start, following}
use Rattle.wgsl_span.specs.declared.Span.{Span}
use Rattle.wgsl_lex_token.specs.declared.kind_table.TokenKind.{TokenKind}
use Rattle.wgsl_lex_token.specs.View.{class_of_kind}
use Rattle.wgsl_lexer.specs.TextTokens.{StartWithKind, BeginAt}
use Rattle.wgsl_read_cursor.specs.Tokens.{first_class}

-- its kind is known
pub kind_known : (ts : List Token) (next : Option TokenKind)
    → MatchOption next (ts ≡ []) (StartWithKind ts) → option_map class_of_kind next ≡ first_class ts
kind_known [] None h = refl
kind_known [] (Some kind) h = absurd h
kind_known (t ∷ ts) None h = absurd cc
kind_known (t ∷ ts) (Some kind) h = ap (λ (c : ℕ). Some c) (sym h)

pub known_kind : (ts : List Token) (next : Option TokenKind)
    → option_map class_of_kind next ≡ first_class ts
    → MatchOption next (ts ≡ []) (λ kind. is_first (class_of_kind kind) ts ≡ true)
known_kind [] None h = refl
known_kind [] (Some kind) h = absurd cc
known_kind (t ∷ ts) None h = absurd cc
known_kind (t ∷ ts) (Some kind) h = eq-eqb t.class (class_of_kind kind) cc

-- whether there is none
pub none_known : (ts : List Token) (next : Option TokenKind)
    → option_map class_of_kind next ≡ first_class ts → IsTrue (is_none next) ↔ (ts ≡ [])
none_known [] None h = ((λ x. refl), (λ e. refl))
none_known [] (Some kind) h = absurd cc
none_known (t ∷ ts) None h = absurd cc
none_known (t ∷ ts) (Some kind) h = ((λ x. absurd cc), (λ e. absurd cc))

-- whether it is of a class
pub first_kind : (ts : List Token) (next : Option TokenKind) (kind : TokenKind) (class : ℕ)
    → option_map class_of_kind next ≡ first_class ts → next ≡ Some kind
    → is_first class ts ≡ eqb (class_of_kind kind) class
first_kind [] None kind class h e = absurd cc
first_kind [] (Some k) kind class h e = absurd cc
first_kind (t ∷ ts) None kind class h e = absurd cc
first_kind (t ∷ ts) (Some k) kind class h e =
    let same : t.class ≡ class_of_kind kind = cc in ap (λ (c : ℕ). eqb c class) same

pub first_none : (ts : List Token) (next : Option TokenKind) (class : ℕ)
    → option_map class_of_kind next ≡ first_class ts → next ≡ None → is_first class ts ≡ false
first_none [] next class h e = refl
first_none (t ∷ ts) None class h e = absurd cc
first_none (t ∷ ts) (Some k) class h e = absurd cc

-- where it starts
pub first_place : (ts : List Token) (span : Span) → BeginAt ts span → span.start ≡ first_start ts
first_place [] span h = absurd h
first_place (t ∷ ts) span h = sym h.0

-- where it ends
pub first_end : (end : ℕ) (ts : List Token) (span : Span) → BeginAt ts span → span.end ≡ (following end ts).end
first_end end [] span h = absurd h
first_end end (t ∷ ts) span h = sym h.1

pub none_end : (end : ℕ) (ts : List Token) → ts ≡ [] → end ≡ (following end ts).end
none_end end [] h = refl
none_end end (t ∷ ts) h = absurd cc

-- what is after it
pub after_first : (end place : ℕ) (ts us : List Token) → place ≡ (following end ts).end
    → us ≡ drop 1 ts → record { end = place; rest = us } ≡ following end ts
after_first end place [] us p s = ap₂ (λ (e : ℕ) (r : List Token). record { end = e; rest = r }) p s
after_first end place (t ∷ ts) us p s = ap₂ (λ (e : ℕ) (r : List Token). record { end = e; rest = r }) p s

-- fewer tokens are after it
pub fewer_after : (class end : ℕ) (ts : List Token) → is_first class ts ≡ true
    → length (following end ts).rest < length ts
fewer_after class end [] h = absurd cc
fewer_after class end (t ∷ ts) h = omega arith
