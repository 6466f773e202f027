-- Following steps over the tokens that are left, in a dialect.
use Rattle.std.specs.Prelude.{ℕ, List, cond}
use Rattle.grammar.specs.States.{State, Read, Read.done, Read.stop, ◌>>=◌, is_any, take_any, turns, reads}
use Rattle.wgsl_model.specs.Grammar.Symbols.{Dialect}
use Rattle.wgsl_theory_grammar.specs.Unchecked.{unchecked_body}
use Rattle.wgsl_theory_grammar.specs.Factored.{FactoredSymbol}
use Rattle.wgsl_theory_grammar.specs.Tables.{rank_limit, tables}
use Rattle.wgsl_read_dialect.specs.Steps.{Steps, Steps.no_step, Steps.a_token, Steps.a_symbol, Steps.a_choice, Steps.items}

-- what was read, its value forgotten
abbrev pub forgotten : {A : Type 0} → Read A → Read (Unit {0})
forgotten (done a s) = done (tt {0}) s
forgotten (stop e) = stop e

-- what a symbol passes over
unfoldable pub passes : Dialect → FactoredSymbol → State → Read (Unit {0})
passes L n s = forgotten (reads tables (unchecked_body L) rank_limit n s)

-- what items pass over, as long as the next token is of one of the classes
unfoldable pub repeated : List ℕ → (State → Read (Unit {0})) → State → Read (Unit {0})
repeated cs r s = turns (λ u v span. u) cs r 0 (tt {0}) s

-- what steps pass over
abbrev pub follow : Dialect → Steps → State → Read (Unit {0})
follow L no_step s = done (tt {0}) s
follow L (a_token cs k) s = forgotten (take_any cs s) >>= λ u s'. follow L k s'
follow L (a_symbol n k) s = passes L n s >>= λ u s'. follow L k s'
follow L (a_choice cs g h k) s = cond (is_any cs s) (follow L g s) (follow L h s) >>= λ u s'. follow L k s'
follow L (items cs h k) s = repeated cs (follow L h) s >>= λ u s'. follow L k s'
