-- Loops: what their parts are read as, and what is made of them.
use Rattle.std.proofs.Common.{◌≡◌, ◌∙◌, ap, Option, map}
use Rattle.std.specs.Option.{option_map}
use Rattle.std.specs.declared.vec.Vec.{Vec}
use Rattle.std.specs.declared.alloc.Global.{Global}
use Rattle.grammar.specs.Grammar.{Grammar.symbol}
use Rattle.grammar.specs.States.{State, Read, Read.done, ◌>>=◌}
use Rattle.wgsl_model.specs.Tokens.ClassTable.{KwContinuing, KwLoop, KwWhile}
use Rattle.wgsl_model.specs.Trees.Attributed.{Attributed}
use Rattle.wgsl_model.specs.Trees.Statements.{compound_of, for_of, loop_of, while_of, continuing_statement_of}
use Rattle.wgsl_model.specs.Grammar.Symbols.{Symbol.compound_statement}
use Rattle.wgsl_theory_grammar.specs.Factored.{FactoredSymbol.of, FactoredSymbol.further, Further.loop_rest, Further.continuing_rest, Further.continuing_part, Further.loop_part, Further.for_part, Further.while_part}
use Rattle.wgsl_theory_grammar.specs.Reader.{reader}
use Rattle.wgsl_theory_grammar.proofs.Reader.{step}
use Rattle.wgsl_model.specs.Trees.Statements as plain
use Rattle.wgsl_span.specs.declared.Spanned.{Spanned}
use Rattle.wgsl_tree_expression.specs.declared.expression.Expression.{Expression}
use Rattle.wgsl_tree_expression.specs.View.{expression_node_view}
use Rattle.wgsl_tree_attribute.specs.declared.attribute.Attribute.{Attribute}
use Rattle.wgsl_tree_attribute.specs.View.{attributes_view}
use Rattle.wgsl_tree_simple.specs.declared.break_if.BreakIfStatement.{BreakIfStatement}
use Rattle.wgsl_tree_simple.specs.View.{break_if_view}
use Rattle.wgsl_tree_statement.specs.declared.statement.Statement.{Statement}
use Rattle.wgsl_tree_statement.specs.declared.compound.CompoundStatement.{CompoundStatement}
use Rattle.wgsl_tree_statement.specs.declared.continuing.ContinuingStatement.{ContinuingStatement}
use Rattle.wgsl_tree_statement.specs.declared.statement.Statement.TheVariants as variant
use Rattle.wgsl_tree_statement.specs.declared.statement.Statement.TheViews as layers
use Rattle.wgsl_tree_statement.specs.View as V
use Rattle.wgsl_tree_statement.proofs.Views.{is_loop, is_for, is_while, loop_statement_roll, for_statement_roll, while_statement_roll, continuing_statement_roll}
use Rattle.wgsl_read_part.specs.Heads.{condition_at, block_start_after_at, for_header_at}
use Rattle.wgsl_read_part.proofs.Heads.{condition_first, block_start_after_first, for_header_first}
use Rattle.wgsl_read_statement.proofs.Blocks.{compound_is}

-- ---- `loop`
-- without its attributes
abbrev pub loop_parts : State → Read plain.UnattributedStatement
loop_parts s = block_start_after_at KwLoop s
    >>= λ b s1. reader (further loop_rest) s1 >>= λ rest s2. done (loop_of b rest.0 rest.1) s2

pub loop_by_parts : (s : State) → reader (further loop_part) s ≡ loop_parts s
loop_by_parts s = step (further loop_part) s
    ∙ block_start_after_first KwLoop (symbol (further loop_rest)) (λ p s'. done (loop_of p.0 p.1.0 p.1.1) s') s

pub loop_statement_is : (attributes body_attributes : Vec (Spanned Attribute) Global)
    (statements : Vec (Spanned Statement) Global) (continuing : Option ContinuingStatement)
    → V.statement_view (variant.Loop (layers.roll-LoopStatement (record {
      attributes = attributes;
      body = layers.roll-CompoundStatement (record { attributes = body_attributes; statements = statements });
      continuing = continuing;
    })))
    ≡ plain.statement (attributes_view attributes.items) (loop_of (attributes_view body_attributes.items)
    (map V.statement_node_view statements.items) (option_map V.continuing_statement_view continuing))
loop_statement_is attributes body_attributes statements continuing =
    is_loop _ ∙ ap (plain.as_statement plain.loop_statement) (loop_statement_roll attributes
    (layers.roll-CompoundStatement (record { attributes = body_attributes; statements = statements })) continuing)
    ∙ ap (λ body. plain.statement (attributes_view attributes.items) (plain.loop_statement
    (plain.repeat body (plain.continuing_of (option_map V.continuing_statement_view continuing)))))
    (compound_is body_attributes statements)

-- ---- `continuing`
-- likewise
abbrev pub continuing_parts : State → Read (plain.CompoundStatement × Option (Attributed plain.BreakIfStatement))
continuing_parts s = block_start_after_at KwContinuing s
    >>= λ a s1. reader (further continuing_rest) s1 >>= λ rest s2. done (compound_of a rest.0, rest.1) s2

pub continuing_by_parts : (s : State) → reader (further continuing_part) s ≡ continuing_parts s
continuing_by_parts s = step (further continuing_part) s ∙ block_start_after_first KwContinuing
    (symbol (further continuing_rest)) (λ p s'. done (compound_of p.0 p.1.0, p.1.1) s') s

pub continuing_statement_is : (attributes body_attributes : Vec (Spanned Attribute) Global)
    (statements : Vec (Spanned Statement) Global) (break_if : Option BreakIfStatement)
    → V.continuing_statement_view (layers.roll-ContinuingStatement (record {
      attributes = attributes;
      body = layers.roll-CompoundStatement (record { attributes = body_attributes; statements = statements });
      break_if = break_if;
    }))
    ≡ continuing_statement_of (attributes_view attributes.items) (
      compound_of (attributes_view body_attributes.items) (map V.statement_node_view statements.items),
      option_map break_if_view break_if,
    )
continuing_statement_is attributes body_attributes statements break_if =
    continuing_statement_roll (record {
      attributes = attributes;
      body = layers.roll-CompoundStatement (record { attributes = body_attributes; statements = statements });
      break_if = break_if;
    })
    ∙ ap (λ body. plain.continuing (attributes_view attributes.items) body
    (option_map break_if_view break_if)) (compound_is body_attributes statements)

-- ---- `while`
-- likewise
abbrev pub while_parts : State → Read plain.UnattributedStatement
while_parts s = condition_at KwWhile s >>= λ e s1. reader (of compound_statement) s1 >>= λ b s2. done (while_of e b) s2

pub while_by_parts : (s : State) → reader (further while_part) s ≡ while_parts s
while_by_parts s = step (further while_part) s
    ∙ condition_first KwWhile (symbol (of compound_statement)) (λ p s'. done (while_of p.0 p.1) s') s

pub while_statement_is : (attributes : Vec (Spanned Attribute) Global) (condition : Spanned Expression)
    (body : CompoundStatement)
    → V.statement_view (variant.While (layers.roll-WhileStatement
    (record { attributes = attributes; condition = condition; body = body })))
    ≡ plain.statement (attributes_view attributes.items)
    (while_of (expression_node_view condition) (V.compound_statement_view body))
while_statement_is attributes condition body = is_while _ ∙ ap (plain.as_statement plain.while_statement)
    (while_statement_roll (record { attributes = attributes; condition = condition; body = body }))

-- ---- `for`
-- likewise
abbrev pub for_parts : State → Read plain.UnattributedStatement
for_parts s = for_header_at s
    >>= λ h s1. reader (of compound_statement) s1 >>= λ b s2. done (for_of h.0 h.1.0 h.1.1 b) s2

pub for_by_parts : (s : State) → reader (further for_part) s ≡ for_parts s
for_by_parts s = step (further for_part) s
    ∙ for_header_first (symbol (of compound_statement)) (λ p s'. done (for_of p.0 p.1.0 p.1.1.0 p.1.1.1) s') s

pub for_statement_is : (attributes : Vec (Spanned Attribute) Global) (initializer : Option (Spanned Statement))
    (condition : Option (Spanned Expression)) (update : Option (Spanned Statement)) (body : CompoundStatement)
    → V.statement_view (variant.For (layers.roll-ForStatement (record {
      attributes = attributes;
      initializer = initializer;
      condition = condition;
      update = update;
      body = body;
    })))
    ≡ plain.statement (attributes_view attributes.items)
    (for_of (option_map V.statement_node_view initializer) (option_map expression_node_view condition)
    (option_map V.statement_node_view update) (V.compound_statement_view body))
for_statement_is attributes initializer condition update body = is_for _
    ∙ ap (plain.as_statement plain.for_statement) (for_statement_roll attributes initializer condition update body)

-- for search
pub ruleset loops = (loop_by_parts, loop_statement_is)

pub ruleset continuings = (continuing_by_parts, continuing_statement_is)

pub ruleset whiles = (while_by_parts, while_statement_is)

pub ruleset fors = (for_by_parts, for_statement_is)
