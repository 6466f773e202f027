-- `if` and chains of `else if`: what their parts are read as, and what is made of them.
use Rattle.std.proofs.Common.{◌≡◌, ◌∙◌, ap, ap₂, List, [], ◌∷◌, ◌++◌, cond, map, append-nil}
use Rattle.std.specs.Prelude.{Option, Some, None}
use Rattle.std.specs.Option.{option_map}
use Rattle.std.specs.declared.vec.Vec.{Vec}
use Rattle.std.specs.declared.alloc.Global.{Global}
use Rattle.grammar.specs.Grammar.{Grammar.symbol}
use Rattle.grammar.specs.Notation.{◌then◌, ◌or◌, ◌gives◌, ◌▹◌}
use Rattle.grammar.specs.States.{State, Read, Read.done, ◌>>=◌, is_at, take, go}
use Rattle.grammar.proofs.Binding.{bind_associates, bind_alike, bind_cond, pair_goes_on}
use Rattle.wgsl_model.specs.Tokens.ClassTable.{KwElse, KwIf}
use Rattle.wgsl_model.specs.Trees.Expressions.{ExpressionNode}
use Rattle.wgsl_model.specs.Trees.Statements.{if_of}
use Rattle.wgsl_model.specs.Trees.Statements as plain
use Rattle.wgsl_model.specs.Grammar.Symbols.{Symbol.compound_statement, Symbol.expression}
use Rattle.wgsl_theory_grammar.specs.Factored.{FactoredSymbol.of, FactoredSymbol.further, Further.else_rest, Further.if_part, FactoredRule}
use Rattle.wgsl_theory_grammar.specs.Tables.{tables}
use Rattle.wgsl_theory_grammar.specs.Reader.{reader}
use Rattle.wgsl_theory_grammar.specs.StatementRules.{else_rest_at}
use Rattle.wgsl_theory_grammar.proofs.Reader.{step}
use Rattle.wgsl_theory_grammar.proofs.StatementEquations.{else_rest_is}
use Rattle.wgsl_span.specs.declared.Spanned.{Spanned}
use Rattle.wgsl_tree_expression.specs.declared.expression.Expression.{Expression}
use Rattle.wgsl_tree_expression.specs.View.{expression_node_view}
use Rattle.wgsl_tree_attribute.specs.declared.attribute.Attribute.{Attribute}
use Rattle.wgsl_tree_attribute.specs.View.{attributes_view}
use Rattle.wgsl_tree_statement.specs.declared.compound.CompoundStatement.{CompoundStatement}
use Rattle.wgsl_tree_statement.specs.declared.else_clause.ElseClause.{ElseClause}
use Rattle.wgsl_tree_statement.specs.declared.else_clause.ElseIfClause.{ElseIfClause}
use Rattle.wgsl_tree_statement.specs.declared.statement.Statement.TheVariants as variant
use Rattle.wgsl_tree_statement.specs.declared.statement.Statement.TheViews as layers
use Rattle.wgsl_tree_statement.specs.View as V
use Rattle.wgsl_tree_statement.proofs.Views.{is_if, if_statement_roll, if_clause_roll, else_if_clause_roll, else_clause_roll}
use Rattle.wgsl_read_simple.proofs.Binding.{triple_goes_on, token_before, put_before, following, after_more, after_none}
use Rattle.wgsl_read_part.specs.Heads.{condition_at}
use Rattle.wgsl_read_part.proofs.Heads.{condition_first}

abbrev Elses : Type 0
Elses = List plain.ElseIfClause × Option plain.ElseClause

-- further clauses, after those that were read so far
unfoldable pub elses_from : List plain.ElseIfClause → State → Read Elses
elses_from clauses s = following clauses (reader (further else_rest) s)

-- `else if` and what follows, the last `else`, or nothing
unfoldable pub elses_turn : List plain.ElseIfClause → State → Read Elses
elses_turn clauses s = cond (is_at KwElse s) (take KwElse s >>= λ t s'. cond (is_at KwIf s')
    (take KwIf s' >>= λ u s1. reader (of expression) s1 >>= λ e s2. reader (of compound_statement) s2
    >>= λ b s3. elses_from (clauses ++ plain.else_if_clause [] e b ∷ []) s3)
    (reader (of compound_statement) s' >>= λ b s1. done (clauses, Some (plain.else_clause [] b)) s1))
    (done (clauses, None) s)

-- ---- as the grammar writes them
abbrev with_else_if : ExpressionNode × (plain.CompoundStatement × Elses) → Elses
with_else_if p = (plain.else_if_clause [] p.0 p.1.0 ∷ p.1.1.0, p.1.1.1)

abbrev else_if_rest : FactoredRule (ExpressionNode × (plain.CompoundStatement × Elses))
else_if_rest = symbol (of expression) then symbol (of compound_statement) then symbol (further else_rest)

abbrev last_else : FactoredRule Elses
last_else = symbol (of compound_statement) gives λ b. ([], Some (plain.else_clause [] b))

else_if_is : (clauses : List plain.ElseIfClause) (s : State)
    → following clauses (go tables reader (KwIf ▹ else_if_rest gives with_else_if) s)
    ≡ (take KwIf s >>= λ u s1. reader (of expression) s1 >>= λ e s2. reader (of compound_statement) s2
    >>= λ b s3. elses_from (clauses ++ plain.else_if_clause [] e b ∷ []) s3)
unfolding elses_from
else_if_is clauses s =
    bind_associates (go tables reader (KwIf ▹ else_if_rest) s) (λ p s'. done (with_else_if p) s')
    (λ p s'. done (put_before clauses p) s')
    ∙ token_before (take KwIf s) (go tables reader else_if_rest) (λ p s'. done (put_before clauses (with_else_if p)) s')
    ∙ bind_alike (take KwIf s) _ _
    (λ u s1 h. triple_goes_on (reader (of expression) s1) (reader (of compound_statement))
    (reader (further else_rest)) (λ p s'. done (put_before clauses (with_else_if p)) s')
    ∙ bind_alike (reader (of expression) s1) _ _ (λ e s2 h2. bind_alike (reader (of compound_statement) s2) _ _
    (λ b s3 h3. after_more clauses (plain.else_if_clause [] e b) (reader (further else_rest) s3))))

last_else_is : (clauses : List plain.ElseIfClause) (s : State)
    → following clauses (go tables reader last_else s)
    ≡ (reader (of compound_statement) s >>= λ b s'. done (clauses, Some (plain.else_clause [] b)) s')
last_else_is clauses s =
    bind_associates (reader (of compound_statement) s)
    (λ b s'. done ([], Some (plain.else_clause [] b)) s') (λ p s'. done (put_before clauses p) s')
    ∙ bind_alike (reader (of compound_statement) s) _ _
    (λ b s' h. ap (λ cs. done (cs, Some (plain.else_clause [] b)) s') (append-nil clauses))

-- ---- the equations
pub elses_are : (clauses : List plain.ElseIfClause) (s : State) → elses_from clauses s ≡ elses_turn clauses s
unfolding elses_from elses_turn else_rest_at
elses_are clauses s =
    ap (following clauses) (else_rest_is s) ∙ bind_cond (is_at KwElse s)
    (go tables reader (KwElse ▹ (KwIf ▹ else_if_rest gives with_else_if or last_else)) s)
    (done ([], None) s) (λ p s'. done (put_before clauses p) s')
    ∙ ap₂ (cond (is_at KwElse s))
    (token_before (take KwElse s) (go tables reader
    (KwIf ▹ else_if_rest gives with_else_if or last_else)) (λ p s'. done (put_before clauses p) s')
    ∙ bind_alike (take KwElse s) _ _ (λ t s' h. bind_cond (is_at KwIf s') (go tables reader (KwIf ▹ else_if_rest
    gives with_else_if) s') (go tables reader last_else s') (λ p s''. done (put_before clauses p) s'')
    ∙ ap₂ (cond (is_at KwIf s')) (else_if_is clauses s') (last_else_is clauses s')))
    (ap (λ cs. done (cs, None) s) (append-nil clauses))

pub else_rest_from : (s : State) → reader (further else_rest) s ≡ elses_from [] s
unfolding elses_from
else_rest_from s = after_none (reader (further else_rest) s)

-- ---- the statement, without its attributes
abbrev pub if_parts : State → Read plain.UnattributedStatement
if_parts s = condition_at KwIf s >>= λ e s1. reader (of compound_statement) s1
    >>= λ b s2. reader (further else_rest) s2 >>= λ elses s3. done (if_of e b elses) s3

abbrev block_and_elses : FactoredRule (plain.CompoundStatement × Elses)
block_and_elses = symbol (of compound_statement) then symbol (further else_rest)

pub if_by_parts : (s : State) → reader (further if_part) s ≡ if_parts s
if_by_parts s =
    step (further if_part) s
    ∙ condition_first KwIf block_and_elses (λ p s'. done (if_of p.0 p.1.0 p.1.1) s') s
    ∙ bind_alike (condition_at KwIf s) _ _ (λ e s' h. pair_goes_on (reader (of compound_statement) s')
    (reader (further else_rest)) (λ p s''. done (if_of e p.0 p.1) s''))

-- ---- what is made of what was read
if_clause_is : (condition : Spanned Expression) (body : CompoundStatement)
    → V.if_clause_view (layers.roll-IfClause (record { expression = condition; body = body }))
    ≡ plain.if_clause (expression_node_view condition) (V.compound_statement_view body)
if_clause_is condition body = if_clause_roll (record { expression = condition; body = body })

pub else_if_clause_is : (attributes : Vec (Spanned Attribute) Global) (condition : Spanned Expression)
    (body : CompoundStatement)
    → V.else_if_clause_view (layers.roll-ElseIfClause
    (record { attributes = attributes; expression = condition; body = body })) ≡ plain.else_if_clause
    (attributes_view attributes.items) (expression_node_view condition) (V.compound_statement_view body)
else_if_clause_is attributes condition body =
    else_if_clause_roll (record { attributes = attributes; expression = condition; body = body })

pub else_clause_is : (attributes : Vec (Spanned Attribute) Global) (body : CompoundStatement)
    → V.else_clause_view (layers.roll-ElseClause (record { attributes = attributes; body = body }))
    ≡ plain.else_clause (attributes_view attributes.items) (V.compound_statement_view body)
else_clause_is attributes body = else_clause_roll (record { attributes = attributes; body = body })

pub if_statement_is : (attributes : Vec (Spanned Attribute) Global) (condition : Spanned Expression)
    (body : CompoundStatement) (else_ifs : Vec ElseIfClause Global) (last : Option ElseClause)
    → V.statement_view (variant.If (layers.roll-IfStatement (record {
      attributes = attributes;
      if_clause = layers.roll-IfClause (record { expression = condition; body = body });
      else_if_clauses = else_ifs;
      else_clause = last;
    })))
    ≡ plain.statement (attributes_view attributes.items) (if_of (expression_node_view condition)
    (V.compound_statement_view body) (map V.else_if_clause_view else_ifs.items, option_map V.else_clause_view last))
if_statement_is attributes condition body else_ifs last =
    is_if _ ∙ ap (plain.as_statement plain.if_statement) (if_statement_roll attributes
    (layers.roll-IfClause (record { expression = condition; body = body })) else_ifs last)
    ∙ ap (λ clause. plain.statement (attributes_view attributes.items)
    (plain.if_statement (plain.if_else clause (plain.else_ifs_of (map V.else_if_clause_view else_ifs.items))
    (plain.else_of (option_map V.else_clause_view last))))) (if_clause_is condition body)

-- for search
pub ruleset ifs = (if_by_parts, if_statement_is)
