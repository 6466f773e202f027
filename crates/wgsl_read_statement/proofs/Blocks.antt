-- Blocks and their statements: what their parts are read as, and what is made of them.
use Rattle.std.proofs.Common.{◌≡◌, ◌∙◌, refl, ap, List, [], ◌∷◌, ◌++◌, cond, map}
use Rattle.std.specs.declared.vec.Vec.{Vec}
use Rattle.std.specs.declared.alloc.Global.{Global}
use Rattle.grammar.specs.Grammar.{Grammar.symbol}
use Rattle.grammar.specs.States.{State, Read, Read.done, ◌>>=◌, is_at, take, go}
use Rattle.grammar.proofs.Lists.{until, after_none}
use Rattle.wgsl_model.specs.Tokens.ClassTable.{SymBraceRight}
use Rattle.wgsl_model.specs.Trees.Statements.{CompoundStatement, StatementNode, compound_of}
use Rattle.wgsl_model.specs.Trees.Statements as plain
use Rattle.wgsl_model.specs.Grammar.Symbols.{Symbol.compound_statement, Symbol.statement}
use Rattle.wgsl_theory_grammar.specs.Factored.{FactoredSymbol.of, FactoredSymbol.further, Further.block_part, Further.statement_rest, body}
use Rattle.wgsl_theory_grammar.specs.Reader.{reader}
use Rattle.wgsl_theory_grammar.specs.StatementRules.{block_part_at, compound_statement_at, statement_rest_at}
use Rattle.wgsl_theory_grammar.proofs.StatementEquations.{block_part_is, compound_statement_is, statement_rest_is}
use Rattle.wgsl_theory_grammar.specs.Tables.{tables}
use Rattle.wgsl_span.specs.declared.Spanned.{Spanned}
use Rattle.wgsl_tree_attribute.specs.declared.attribute.Attribute.{Attribute}
use Rattle.wgsl_tree_attribute.specs.View.{attributes_view}
use Rattle.wgsl_tree_statement.specs.declared.statement.Statement.{Statement}
use Rattle.wgsl_tree_statement.specs.declared.statement.Statement.TheVariants as variant
use Rattle.wgsl_tree_statement.specs.declared.statement.Statement.TheViews as layers
use Rattle.wgsl_tree_statement.specs.View as V
use Rattle.wgsl_tree_statement.proofs.Views.{is_compound, compound_statement_roll}
use Rattle.wgsl_read_part.specs.Heads.{block_start_at}
use Rattle.wgsl_read_part.proofs.Heads.{block_start_first}

-- further statements, after those that were read so far
unfoldable pub statements_from : List StatementNode → State → Read (List StatementNode)
statements_from statements s = reader (further statement_rest) s >>= λ more s'. done (statements ++ more) s'

unfoldable pub statements_turn : List StatementNode → State → Read (List StatementNode)
statements_turn statements s = cond (is_at SymBraceRight s)
    (take SymBraceRight s >>= λ t s'. done statements s')
    (reader (of statement) s >>= λ n s'. statements_from (statements ++ n ∷ []) s')

pub statements_are : (statements : List StatementNode) (s : State)
    → statements_from statements s ≡ statements_turn statements s
unfolding statements_from statements_turn statement_rest_at
statements_are statements s = until (reader (further statement_rest))
    (reader (of statement)) SymBraceRight statement_rest_is statements s

pub statement_rest_from : (s : State) → reader (further statement_rest) s ≡ statements_from [] s
unfolding statements_from
statement_rest_from s = after_none (reader (further statement_rest) s)

-- what is before the statements, and the statements
abbrev pub compound_parts : State → Read CompoundStatement
compound_parts s = block_start_at s
    >>= λ a s'. reader (further statement_rest) s' >>= λ statements s''. done (compound_of a statements) s''

pub compound_by_parts : (s : State) → reader (of compound_statement) s ≡ compound_parts s
unfolding compound_statement_at
compound_by_parts s = compound_statement_is s
    ∙ block_start_first (symbol (further statement_rest)) (λ p s'. done (compound_of p.0 p.1) s') s

-- a block as a statement, likewise
pub block_by_parts : (s : State) → reader (further block_part) s ≡ go tables reader (body (further block_part)) s
unfolding block_part_at
block_by_parts s = block_part_is s

-- ---- what is made of what was read
-- statements, as they are in a tree
nodes_are : (nodes : List (Spanned Statement))
    → V.statement_nodes_view nodes ≡ plain.statements_of (map V.statement_node_view nodes)
nodes_are [] = refl
nodes_are (n ∷ ns) = ap (plain.statement_before (V.statement_node_view n)) (nodes_are ns)

pub compound_is : (attributes : Vec (Spanned Attribute) Global) (statements : Vec (Spanned Statement) Global)
    → V.compound_statement_view
    (layers.roll-CompoundStatement (record { attributes = attributes; statements = statements }))
    ≡ compound_of (attributes_view attributes.items) (map V.statement_node_view statements.items)
compound_is attributes statements =
    compound_statement_roll (record { attributes = attributes; statements = statements })
    ∙ ap (plain.compound_statement (attributes_view attributes.items)) (nodes_are statements.items)

pub block_is : (attributes : Vec (Spanned Attribute) Global) (statements : Vec (Spanned Statement) Global)
    → V.statement_view (variant.Compound (layers.roll-CompoundStatement
    (record { attributes = attributes; statements = statements }))) ≡ plain.block_statement
    (compound_of (attributes_view attributes.items) (map V.statement_node_view statements.items))
block_is attributes statements =
    is_compound (layers.roll-CompoundStatement (record { attributes = attributes; statements = statements }))
    ∙ ap plain.block_statement (compound_is attributes statements)

-- for search
pub ruleset compounds = (compound_by_parts, compound_is)

pub ruleset blocks = (block_by_parts, block_is)
