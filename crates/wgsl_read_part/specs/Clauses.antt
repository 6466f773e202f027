-- What is before the block of a clause of `switch`, each part as a word of its own, which no
-- computation opens.
use Rattle.std.specs.Prelude.{List, [], ◌∷◌, Option, cond}
use Rattle.grammar.specs.Tokens.{Token}
use Rattle.grammar.specs.Notation.{one_token, optional}
use Rattle.grammar.specs.States.{State, Read, Read.done, ◌>>=◌, is_at, take, go}
use Rattle.wgsl_model.specs.Tokens.ClassTable.{SymColon, KwCase, KwDefault}
use Rattle.wgsl_model.specs.Trees.Statements.{CaseSelector}
use Rattle.wgsl_theory_grammar.specs.Factored.{FactoredSymbol.further, Further.selectors}
use Rattle.wgsl_theory_grammar.specs.Tables.{tables}
use Rattle.wgsl_theory_grammar.specs.Reader.{reader}

-- `:`, or nothing
unfoldable pub maybe_colon_at : State → Read (Option Token)
maybe_colon_at s = go tables reader (optional (one_token SymColon)) s

-- `case` with its selectors, or `default`, and `:` or nothing
unfoldable pub clause_head_at : State → Read (List CaseSelector)
clause_head_at s = cond (is_at KwCase s)
    (take KwCase s >>= λ t s1. reader (further selectors) s1 >>= λ l s2. maybe_colon_at s2 >>= λ o s3. done l s3)
    (take KwDefault s >>= λ t s1. maybe_colon_at s1 >>= λ o s2. done (CaseSelector.default_selector ∷ []) s2)
