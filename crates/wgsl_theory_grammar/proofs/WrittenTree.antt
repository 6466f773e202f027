-- The grammar of each dialect: at most one tree, read exactly; and how its sentences begin.
use Rattle.std.proofs.Common.{◌≡◌, ◌↔◌, List, [], ◌++◌, sym, subst, append_assoc, append-nil}
use Rattle.grammar.specs.Tokens.{Token}
use Rattle.grammar.specs.Grammar.{Mode, Mode.checking, Mode.unchecked, Derives, IsSentence, IsViable}
use Rattle.grammar.specs.Reading.{Outcome.ok, read_all}
use Rattle.grammar.proofs.Reading.Depth.{loosen}
use Rattle.grammar.proofs.Reading.Exact.{accepts, exact, one_tree}
use Rattle.wgsl_model.specs.Grammar.Symbols.{Dialect, Dialect.parsed, Symbol, Value}
use Rattle.wgsl_model.specs.Grammar.Written.{rules, written}
use Rattle.wgsl_theory_grammar.specs.Factored.{FactoredSymbol.of, factored, body}
use Rattle.wgsl_theory_grammar.specs.Tables.{rank_limit, tables}
use Rattle.wgsl_theory_grammar.proofs.Passes.{dialect_passes}
use Rattle.wgsl_theory_grammar.proofs.Forms.Links.{written_is_factored, factored_is_written}

pub dialect_one_tree : (L : Dialect) (M : Mode) (n : Symbol) (v w : Value n) (ts : List Token)
    → Derives M (rules L) n v ts → Derives M (rules L) n w ts → v ≡ w
dialect_one_tree L M n v w ts d e = one_tree tables M (factored L) rank_limit (dialect_passes L)
    (of n) v w ts (written_is_factored L M n v ts [] d) (written_is_factored L M n w ts [] e)

pub dialect_same_trees : (L : Dialect) (M : Mode) (n : Symbol) (v : Value n) (ts : List Token)
    → Derives M (rules L) n v ts ↔ Derives M (factored L) (of n) v ts
dialect_same_trees L M n v ts = (written_is_factored L M n v ts [], factored_is_written L M n v ts [])

pub dialect_exact : (L : Dialect) (M : Mode) (n : Symbol) (v : Value n) (ts : List Token)
    → (read_all tables M (factored L) rank_limit (of n) ts ≡ ok v []) ↔ Derives M (rules L) n v ts
dialect_exact L M n v ts = (
  λ e. factored_is_written L M n v ts [] (exact tables M (factored L) rank_limit (of n) v ts e),
  λ d. accepts tables M (factored L) rank_limit (dialect_passes L) (of n) v ts (written_is_factored L M n v ts [] d),
)

-- ---- the whole language
pub written_one_tree : (M : Mode) (n : Symbol) (v w : Value n) (ts : List Token)
    → Derives M written n v ts → Derives M written n w ts → v ≡ w
written_one_tree = dialect_one_tree parsed

pub written_exact : (M : Mode) (n : Symbol) (v : Value n) (ts : List Token)
    → (read_all tables M body rank_limit (of n) ts ≡ ok v []) ↔ Derives M written n v ts
written_exact = dialect_exact parsed

-- ---- sentences and how they begin, in both forms
pub sentence_in : (L : Dialect) (n : Symbol) (ts : List Token) → IsSentence (rules L) n ts
    → IsSentence (factored L) (of n) ts
sentence_in L n ts (v, d) = (v, written_is_factored L unchecked n v ts [] d)

pub viable_in : (L : Dialect) (n : Symbol) (ts : List Token) → IsViable (rules L) n ts → IsViable (factored L) (of n) ts
viable_in L n ts (zs, s) = (zs, sentence_in L n (ts ++ zs) s)

pub viable_out : (L : Dialect) (n : Symbol) (ts : List Token) → IsViable (factored L) (of n) ts
    → IsViable (rules L) n ts
viable_out L n ts (zs, (v, d)) = (zs, (v, factored_is_written L unchecked n v (ts ++ zs) [] d))

-- what begins so, begins with each front of it
pub viable_front : (L : Dialect) (n : Symbol) (p q : List Token) → IsViable (rules L) n (p ++ q)
    → IsViable (rules L) n p
viable_front L n p q (zs, (v, d)) =
    (q ++ zs, (v, subst (λ (x : List Token). Derives unchecked (rules L) n v x) (append_assoc p q zs) d))

pub sentence_is_viable : (L : Dialect) (n : Symbol) (ts : List Token) → IsSentence (rules L) n ts
    → IsViable (rules L) n ts
sentence_is_viable L n ts (v, d) =
    ([], (v, subst (λ (x : List Token). Derives unchecked (rules L) n v x) (sym (append-nil ts)) d))

pub checked_is_viable : (L : Dialect) (n : Symbol) (v : Value n) (ts : List Token)
    → Derives checking (rules L) n v ts → IsViable (rules L) n ts
checked_is_viable L n v ts d = sentence_is_viable L n ts (v, loosen checking (rules L) n v ts [] d)
