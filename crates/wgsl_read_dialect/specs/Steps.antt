-- Right sides as steps over tokens, without values.
use Rattle.std.specs.Prelude.{ℕ, List}
use Rattle.grammar.specs.Grammar.{Grammar.empty, Grammar.token, Grammar.sequence, Grammar.choice, Grammar.mapped, Grammar.node, Grammar.checked, Grammar.symbol, Grammar.left_chain}
use Rattle.grammar.specs.Tables.{first}
use Rattle.wgsl_model.specs.Grammar.Symbols.{Dialect}
use Rattle.wgsl_theory_grammar.specs.Unchecked.{unchecked_body}
use Rattle.wgsl_theory_grammar.specs.Factored.{Further.braced_part, FactoredSymbol, FactoredSymbol.further, FactoredRule}
use Rattle.wgsl_theory_grammar.specs.Tables.{tables}

-- steps, each before the others: a token of one of some classes; a symbol; one of two, the first
-- where the next token is of one of some classes; and items, as long as it is
pub data Steps : Type 0 where
  no_step : Steps
  a_token : List ℕ → Steps → Steps
  a_symbol : FactoredSymbol → Steps → Steps
  a_choice : List ℕ → Steps → Steps → Steps → Steps
  items : List ℕ → Steps → Steps → Steps

-- the steps of a right side, before others
abbrev pub steps_of : {A : Type 0} → FactoredRule A → Steps → Steps
steps_of (empty a) k = k
steps_of (token s) k = a_token s k
steps_of (sequence g h) k = steps_of g (steps_of h k)
steps_of (choice g h) k = a_choice (first tables g) (steps_of g no_step) (steps_of h no_step) k
steps_of (mapped f g) k = steps_of g k
steps_of (node f g) k = steps_of g k
steps_of (checked f g) k = steps_of g k
steps_of (symbol n) k = a_symbol n k
steps_of (left_chain f g h) k = steps_of g (items (first tables h) (steps_of h no_step) k)

-- the same steps, with those of each symbol in its place; in items the symbols stay
abbrev pub opened : Dialect → Steps → Steps
opened L no_step = no_step
opened L (a_token cs k) = a_token cs (opened L k)
opened L (a_symbol n k) = steps_of (unchecked_body L n) (opened L k)
opened L (a_choice cs g h k) = a_choice cs (opened L g) (opened L h) (opened L k)
opened L (items cs h k) = items cs h (opened L k)

-- the steps of a symbol's right side; those of each statement that ends with a block are in it
unfoldable pub rule_steps : Dialect → FactoredSymbol → Steps
rule_steps L (further braced_part) = opened L (steps_of (unchecked_body L (further braced_part)) no_step)
rule_steps L n = steps_of (unchecked_body L n) no_step
