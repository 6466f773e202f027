-- What is before a block or between its attributes and its statements, each as a word of its
-- own, which no computation opens.
use Rattle.std.specs.Prelude.{ℕ, Option}
use Rattle.grammar.specs.States.{State, Read, Read.done, ◌>>=◌, take}
use Rattle.wgsl_model.specs.Tokens.ClassTable.{SymBraceLeft, SymParenLeft, KwFor, KwSwitch}
use Rattle.wgsl_model.specs.Trees.Expressions.{ExpressionNode}
use Rattle.wgsl_model.specs.Trees.Attributes.{Attributes}
use Rattle.wgsl_model.specs.Trees.Statements.{StatementNode}
use Rattle.wgsl_model.specs.Grammar.Symbols.{Symbol.expression}
use Rattle.wgsl_theory_grammar.specs.Factored.{FactoredSymbol.of, FactoredSymbol.further, Further.attribute_list, Further.init_part, Further.condition_part, Further.update_part}
use Rattle.wgsl_theory_grammar.specs.Reader.{reader}

-- a keyword, by its class, and the condition after it
unfoldable pub condition_at : ℕ → State → Read ExpressionNode
condition_at class s = take class s >>= λ t s'. reader (of expression) s'

-- attributes and the `{` after them
unfoldable pub block_start_at : State → Read Attributes
block_start_at s = reader (further attribute_list) s >>= λ a s'. take SymBraceLeft s' >>= λ t s''. done a s''

-- a keyword, by its class, attributes, and the `{` after them
unfoldable pub block_start_after_at : ℕ → State → Read Attributes
block_start_after_at class s = take class s >>= λ t s'. block_start_at s'

-- `switch`, its expression, the attributes of its body, and the `{` after them
unfoldable pub switch_head_at : State → Read (ExpressionNode × Attributes)
switch_head_at s = take KwSwitch s
    >>= λ t s1. reader (of expression) s1 >>= λ e s2. block_start_at s2 >>= λ a s3. done (e, a) s3

-- `for`, `(`, what is done before the first turn, the condition, what is done after each turn, and
-- the `)`
unfoldable pub for_header_at : State → Read (Option StatementNode × (Option ExpressionNode × Option StatementNode))
for_header_at s = take KwFor s
    >>= λ t s1. take SymParenLeft s1 >>= λ u s2. reader (further init_part) s2 >>= λ i s3.
    reader (further condition_part) s3 >>= λ c s4. reader (further update_part) s4 >>= λ w s5. done (i, (c, w)) s5
