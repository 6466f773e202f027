-- `switch`: what its parts are read as, and what is made of them.
use Rattle.std.proofs.Common.{◌≡◌, ◌∙◌, refl, sym, ap, ap₂, List, [], ◌∷◌, ◌++◌, cond, map}
use Rattle.std.specs.declared.vec.Vec.{Vec}
use Rattle.std.specs.declared.alloc.Global.{Global}
use Rattle.std.specs.Prelude.{Option}
use Rattle.grammar.specs.Tokens.{Token}
use Rattle.grammar.specs.Grammar.{Grammar.symbol}
use Rattle.grammar.specs.Notation.{one_token, ◌then◌, ◌▹◌, optional}
use Rattle.grammar.specs.States.{State, Read, Read.done, ◌>>=◌, is_at, take, go}
use Rattle.grammar.proofs.Lists.{until}
use Rattle.grammar.proofs.Binding.{bind_associates, bind_alike, bind_cond, pair_goes_on}
use Rattle.wgsl_model.specs.Tokens.ClassTable.{SymBraceRight, SymColon, KwCase, KwDefault}
use Rattle.wgsl_model.specs.Trees.Statements.{clause_of, switch_of}
use Rattle.wgsl_model.specs.Trees.Statements as plain
use Rattle.wgsl_model.specs.Grammar.Symbols.{Symbol.compound_statement, Symbol.switch_clause}
use Rattle.wgsl_theory_grammar.specs.Factored.{FactoredSymbol.of, FactoredSymbol.further, Further.attribute_list, Further.selectors, Further.clause_rest, Further.clause_part, Further.switch_part, FactoredRule}
use Rattle.wgsl_theory_grammar.specs.Tables.{tables}
use Rattle.wgsl_theory_grammar.specs.Reader.{reader}
use Rattle.wgsl_theory_grammar.specs.StatementRules.{switch_clause_at, clause_rest_at, clause_part_at}
use Rattle.wgsl_theory_grammar.proofs.Reader.{step}
use Rattle.wgsl_theory_grammar.proofs.StatementEquations.{switch_clause_is, clause_rest_is, clause_part_is}
use Rattle.wgsl_span.specs.declared.Spanned.{Spanned}
use Rattle.wgsl_tree_expression.specs.declared.expression.Expression.{Expression}
use Rattle.wgsl_tree_expression.specs.View.{expression_node_view}
use Rattle.wgsl_tree_attribute.specs.declared.attribute.Attribute.{Attribute}
use Rattle.wgsl_tree_attribute.specs.View.{attributes_view}
use Rattle.wgsl_tree_simple.specs.declared.case_selector.CaseSelector.{CaseSelector}
use Rattle.wgsl_tree_simple.specs.View.{selector_view}
use Rattle.wgsl_tree_statement.specs.declared.compound.CompoundStatement.{CompoundStatement}
use Rattle.wgsl_tree_statement.specs.declared.switch.SwitchClause.{SwitchClause}
use Rattle.wgsl_tree_statement.specs.declared.statement.Statement.TheVariants as variant
use Rattle.wgsl_tree_statement.specs.declared.statement.Statement.TheViews as layers
use Rattle.wgsl_tree_statement.specs.View as V
use Rattle.wgsl_tree_statement.proofs.Views.{is_switch, switch_statement_roll, switch_clause_roll}
use Rattle.wgsl_read_simple.proofs.Binding.{triple_goes_on, token_before}
use Rattle.wgsl_read_part.specs.Clauses.{maybe_colon_at, clause_head_at}
use Rattle.wgsl_read_part.specs.Heads.{switch_head_at}
use Rattle.wgsl_read_part.proofs.Heads.{switch_head_first}
use Rattle.wgsl_read_statement.specs.Switches.{clauses_at}

-- ---- a clause
-- what a clause selects, and its block
abbrev Clause : Type 0
Clause = List plain.CaseSelector × plain.CompoundStatement

-- attributes, what is before the block, and the block
abbrev pub switch_clause_parts : State → Read plain.SwitchClause
switch_clause_parts s = reader (further attribute_list) s >>= λ a s1. clause_head_at s1
    >>= λ l s2. reader (of compound_statement) s2 >>= λ b s3. done (clause_of a (l, b)) s3

-- the block after what is before it
abbrev block_after : List plain.CaseSelector → State → Read Clause
block_after l s = reader (of compound_statement) s >>= λ b s'. done (l, b) s'

abbrev default_only : List plain.CaseSelector
default_only = plain.CaseSelector.default_selector ∷ []

abbrev case_head : State → Read (List plain.CaseSelector)
case_head s = take KwCase s
    >>= λ t s1. reader (further selectors) s1 >>= λ l s2. maybe_colon_at s2 >>= λ o s3. done l s3

abbrev default_head : State → Read (List plain.CaseSelector)
default_head s = take KwDefault s >>= λ t s1. maybe_colon_at s1 >>= λ o s2. done default_only s2

-- as the grammar writes it
abbrev after_colon : FactoredRule (Option Token × plain.CompoundStatement)
after_colon = optional (one_token SymColon) then symbol (of compound_statement)

abbrev case_made : List plain.CaseSelector × (Option Token × plain.CompoundStatement) → State → Read Clause
case_made p s = done (p.0, p.1.1) s

abbrev default_made : Option Token × plain.CompoundStatement → State → Read Clause
default_made p s = done (default_only, p.1) s

case_is : (s : State)
    → (go tables reader (KwCase ▹ symbol (further selectors) then after_colon) s >>= case_made)
    ≡ (case_head s >>= block_after)
unfolding maybe_colon_at
case_is s =
    token_before (take KwCase s) (go tables reader (symbol (further selectors) then after_colon)) case_made
    ∙ bind_alike (take KwCase s) _ _ (λ t s1 h. triple_goes_on (reader (further selectors) s1)
    maybe_colon_at (reader (of compound_statement)) case_made)
    ∙ sym (bind_associates (take KwCase s) _ block_after
    ∙ bind_alike (take KwCase s) _ _ (λ t s1 h. bind_associates (reader (further selectors) s1) _ block_after
    ∙ bind_alike (reader (further selectors) s1) _ _ (λ l s2 h2. bind_associates (maybe_colon_at s2) _ block_after)))

default_is : (s : State)
    → (go tables reader (KwDefault ▹ after_colon) s >>= default_made) ≡ (default_head s >>= block_after)
unfolding maybe_colon_at
default_is s =
    token_before (take KwDefault s) (go tables reader after_colon) default_made
    ∙ bind_alike (take KwDefault s) _ _
    (λ t s1 h. pair_goes_on (maybe_colon_at s1) (reader (of compound_statement)) default_made)
    ∙ sym (bind_associates (take KwDefault s) _ block_after
    ∙ bind_alike (take KwDefault s) _ _ (λ t s1 h. bind_associates (maybe_colon_at s1) _ block_after))

clause_part_by_parts : (s : State) → reader (further clause_part) s ≡ (clause_head_at s >>= block_after)
unfolding clause_part_at clause_head_at
clause_part_by_parts s =
    clause_part_is s ∙ ap₂ (cond (is_at KwCase s)) (case_is s) (default_is s)
    ∙ sym (bind_cond (is_at KwCase s) (case_head s) (default_head s) block_after)

pub switch_clause_by_parts : (s : State) → reader (of switch_clause) s ≡ switch_clause_parts s
unfolding switch_clause_at
switch_clause_by_parts s =
    switch_clause_is s
    ∙ pair_goes_on (reader (further attribute_list) s) (reader (further clause_part))
    (λ p s'. done (clause_of p.0 p.1) s')
    ∙ bind_alike (reader (further attribute_list) s) _ _
    (λ a s1 h. ap (λ m. m >>= λ p s'. done (clause_of a p) s') (clause_part_by_parts s1)
    ∙ bind_associates (clause_head_at s1) block_after (λ p s'. done (clause_of a p) s')
    ∙ bind_alike (clause_head_at s1) _ _ (λ l s2 h2. bind_associates (reader (of compound_statement) s2)
    (λ b s'. done (l, b) s') (λ p s'. done (clause_of a p) s')))

-- ---- clauses
-- further clauses, after those that were read so far
unfoldable pub clauses_from : List plain.SwitchClause → State → Read (List plain.SwitchClause)
clauses_from clauses s = reader (further clause_rest) s >>= λ more s'. done (clauses ++ more) s'

unfoldable pub clauses_turn : List plain.SwitchClause → State → Read (List plain.SwitchClause)
clauses_turn clauses s = cond (is_at SymBraceRight s) (take SymBraceRight s >>= λ t s'. done clauses s')
    (reader (of switch_clause) s >>= λ c s'. clauses_from (clauses ++ c ∷ []) s')

pub clauses_are : (clauses : List plain.SwitchClause) (s : State) → clauses_from clauses s ≡ clauses_turn clauses s
unfolding clauses_from clauses_turn clause_rest_at
clauses_are clauses s = until (reader (further clause_rest))
    (reader (of switch_clause)) SymBraceRight clause_rest_is clauses s

-- the first, and those after it
unfoldable pub clauses_parts : State → Read (List plain.SwitchClause)
clauses_parts s = reader (of switch_clause) s >>= λ c s'. clauses_from (c ∷ []) s'

pub clauses_by_parts : (s : State) → clauses_at s ≡ clauses_parts s
unfolding clauses_at clauses_parts clauses_from
clauses_by_parts s = refl

-- ---- the statement, without its attributes
abbrev pub switch_parts : State → Read plain.UnattributedStatement
switch_parts s = switch_head_at s >>= λ h s1. clauses_at s1 >>= λ clauses s2. done (switch_of h.0 h.1 clauses) s2

-- as the grammar writes its clauses
abbrev clauses_written : FactoredRule (plain.SwitchClause × List plain.SwitchClause)
clauses_written = symbol (of switch_clause) then symbol (further clause_rest)

clauses_go_on : (f : List plain.SwitchClause → State → Read plain.UnattributedStatement) (s : State)
    → (reader (of switch_clause) s >>= λ c s'. reader (further clause_rest) s' >>= λ cs s''. f (c ∷ cs) s'')
    ≡ (clauses_at s >>= f)
unfolding clauses_at
clauses_go_on f s = sym (bind_associates (reader (of switch_clause) s) _ f ∙ bind_alike (reader
    (of switch_clause) s) _ _ (λ c s' h. bind_associates (reader (further clause_rest) s') _ f))

pub switch_by_parts : (s : State) → reader (further switch_part) s ≡ switch_parts s
switch_by_parts s =
    step (further switch_part) s
    ∙ switch_head_first clauses_written (λ p s'. done (switch_of p.0 p.1.0 (p.1.1.0 ∷ p.1.1.1)) s') s
    ∙ bind_alike (switch_head_at s) _ _ (λ h s1 k. pair_goes_on (reader (of switch_clause) s1)
    (reader (further clause_rest)) (λ p s'. done (switch_of h.0 h.1 (p.0 ∷ p.1)) s')
    ∙ clauses_go_on (λ clauses s'. done (switch_of h.0 h.1 clauses) s') s1)

-- ---- what is made of what was read
pub switch_statement_is : (attributes : Vec (Spanned Attribute) Global) (expression : Spanned Expression)
    (body_attributes : Vec (Spanned Attribute) Global) (clauses : Vec SwitchClause Global)
    → V.statement_view (variant.Switch (layers.roll-SwitchStatement (record {
      attributes = attributes;
      expression = expression;
      body_attributes = body_attributes;
      clauses = clauses;
    })))
    ≡ plain.statement (attributes_view attributes.items) (switch_of (expression_node_view expression)
    (attributes_view body_attributes.items) (map V.switch_clause_view clauses.items))
switch_statement_is attributes expression body_attributes clauses =
    is_switch _ ∙ ap (plain.as_statement plain.switch_statement) (switch_statement_roll
    (record { attributes = attributes; expression = expression; body_attributes = body_attributes; clauses = clauses }))

pub clause_view_is : (attributes : Vec (Spanned Attribute) Global) (selected : Vec CaseSelector Global)
    (body : CompoundStatement)
    → V.switch_clause_view (layers.roll-SwitchClause
    (record { attributes = attributes; case_selectors = selected; body = body })) ≡ clause_of
    (attributes_view attributes.items) (map selector_view selected.items, V.compound_statement_view body)
clause_view_is attributes selected body =
    switch_clause_roll (record { attributes = attributes; case_selectors = selected; body = body })

-- for search
pub ruleset switches = (switch_by_parts, switch_statement_is)

pub ruleset switch_clauses = (switch_clause_by_parts, clause_view_is)
