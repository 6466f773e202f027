-- Where checks count a name is an identifier; so what expressions derive is told by a test of their
-- right sides.
use Rattle.std.proofs.Common.{◌≡◌, ℕ, Bool, true, false, cond, eqb, not, ◌||◌, Some, None, List, refl}
use Rattle.grammar.specs.Tokens.{Token, Fault}
use Rattle.grammar.specs.Grammar.{Mode.checking, Means, Part}
use Rattle.grammar.specs.Notation.{one_token}
use Rattle.wgsl_model.specs.Tokens.ClassTable.{Ident, ReservedWord}
use Rattle.wgsl_model.specs.Grammar.Symbols.{Symbol, ident, Value, Rule}
use Rattle.wgsl_model.specs.Grammar.Written.{written}
use Rattle.wgsl_theory_grammar.proofs.Faults.WrittenEnds.{in_expression}
use Rattle.wgsl_theory_grammar.proofs.Faults.Avoids.{ClassTest, takes_only, TakingOnly, only_part}

-- the rules, where a name is no reserved word
abbrev pub checked_rule : (n : Symbol) → Rule (Value n)
checked_rule ident = one_token Ident
checked_rule n = written n

no_reserved_word : (b c : Bool) (x : Fault) → cond b true (cond c true false) ≡ true
    → cond c (Some x) None ≡ None → cond b true false ≡ true
no_reserved_word true c x h e = refl
no_reserved_word false true x h e = absurd cc
no_reserved_word false false x h e = h

pub is_checked : (D : (n : Symbol) → Value n → List Token → List Token → Type 0) (n : Symbol)
    (v : Value n) (xs ys : List Token) → Means checking D (written n) v xs ys
    → Means checking D (checked_rule n) v xs ys
is_checked D ident v xs ys h = (no_reserved_word (eqb v.class Ident) (eqb v.class ReservedWord) _ h.1.0 h.0, h.1.1)
is_checked D n v xs ys h = h

-- the classes of the tokens of expressions
pub expression_takes : {Q : ℕ → Type 0} (T : ClassTest Q)
    → ((n : Symbol) → (not (in_expression n) || takes_only T.test in_expression (checked_rule n)) ≡ true)
    → (n : Symbol) → in_expression n ≡ true → TakingOnly Q (Part checking written n)
expression_takes T H = only_part checking written checked_rule T in_expression is_checked H
