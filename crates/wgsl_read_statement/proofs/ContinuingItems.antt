-- What the body of a `continuing` holds, item by item.
use Rattle.std.proofs.Common.{◌≡◌, ◌∙◌, ℕ, Bool, true, false, refl, sym, ap, ap₂, List, [], ◌∷◌, ◌++◌, cond, append-nil}
use Rattle.std.specs.Prelude.{Option, Some, None}
use Rattle.grammar.specs.Tokens.{Token, Span}
use Rattle.grammar.specs.Grammar.{Grammar.symbol}
use Rattle.grammar.specs.Notation.{one_token, ◌then◌, ◌or◌, ◌gives◌, ◌▹◌, ◌◃◌}
use Rattle.grammar.specs.States.{State, Read, Read.done, ◌>>=◌, is_at, is_any, take, next_start, span_from, go}
use Rattle.grammar.proofs.Binding.{bind_associates, bind_alike, bind_cond, pair_goes_on}
use Rattle.wgsl_model.specs.Tokens.ClassTable.{SymBraceRight, SymParenLeft, SymSemicolon, KwBreak, KwIf}
use Rattle.wgsl_model.specs.Trees.Expressions.{ExpressionNode}
use Rattle.wgsl_model.specs.Trees.Attributes.{Attributes}
use Rattle.wgsl_model.specs.Trees.Attributed.{Attributed, with_attributes}
use Rattle.wgsl_model.specs.Trees.Statements.{BreakIfStatement, StatementNode, UnattributedStatement, statement, break_if_of}
use Rattle.wgsl_model.specs.Grammar.StatementParts.{placed_statement}
use Rattle.wgsl_model.specs.Grammar.Symbols.{Symbol.expression}
use Rattle.wgsl_theory_grammar.specs.Factored.{FactoredSymbol.of, FactoredSymbol.further, FactoredRule, Further.attribute_list, Further.continuing_rest, Further.plain_statement, Further.braced_part, Further.ended_part, attributes_before, taken_by, with_place, begun_by, statement_first, with_break, with_condition}
use Rattle.wgsl_theory_grammar.specs.Tables.{tables}
use Rattle.wgsl_theory_grammar.specs.Reader.{reader}
use Rattle.wgsl_theory_grammar.specs.StatementRules.{continuing_rest_at}
use Rattle.wgsl_theory_grammar.proofs.StatementEquations.{continuing_rest_is}
use Rattle.wgsl_read_attribute.proofs.Begun.{attributes_begun}
use Rattle.wgsl_read_simple.specs.Given.{given}
use Rattle.wgsl_read_simple.proofs.Binding.{given_is, put_before, following, after_more, after_none}
use Rattle.wgsl_read_part.specs.Plain.{break_if_rest_at}
use Rattle.wgsl_read_part.proofs.Items.{closed_is, with_item, item_is}
use Rattle.wgsl_read_part.proofs.TokenSpans.{two_tokens}
use Rattle.wgsl_read_statement.specs.Statements.{statement_after_at}
use Rattle.wgsl_read_statement.proofs.Statements.{unbroken_is}
use Rattle.wgsl_read_statement.proofs.StatementItems.{item_made, statement_item_is}

abbrev ContinuingItems : Type 0
ContinuingItems = List StatementNode × Option (Attributed BreakIfStatement)

-- further statements, after those that were read so far
unfoldable pub continuing_items_from : List StatementNode → State → Read ContinuingItems
continuing_items_from statements s = following statements (reader (further continuing_rest) s)

-- what follows a `break` whose attributes begin at a place: its `;` and more, or `if` and the end
abbrev after_break : List StatementNode → ℕ → Attributes → State → Read ContinuingItems
after_break statements start a s = cond (is_at SymSemicolon s)
    (take SymSemicolon s >>= λ t s'. continuing_items_from (statements
    ++ placed_statement (statement a UnattributedStatement.break_statement) (span_from start s') ∷ []) s')
    (break_if_rest_at a s >>= λ c s'. done (statements, Some c) s')

-- after attributes that begin at a place: `break`, or another statement and more
abbrev after_continuing_attributes : List StatementNode → ℕ → Attributes → State → Read ContinuingItems
after_continuing_attributes statements start a s = cond (is_at KwBreak s)
    (take KwBreak s >>= λ t s'. after_break statements start a s')
    (statement_after_at a start s >>= λ n s'. continuing_items_from (statements ++ n ∷ []) s')

unfoldable pub continuing_items_turn : List StatementNode → State → Read ContinuingItems
continuing_items_turn statements s = cond (is_at SymBraceRight s)
    (take SymBraceRight s >>= λ t s'. done (statements, None) s')
    (cond (is_any (SymParenLeft ∷ SymSemicolon ∷ []) s)
    (reader (further plain_statement) s >>= λ n s'. continuing_items_from (statements ++ n ∷ []) s')
    (reader (further attribute_list) s >>= λ a s'. after_continuing_attributes statements (next_start s) a s'))

-- as the grammar writes them
abbrev break_more : FactoredRule (Token → Attributes → ContinuingItems)
break_more = one_token SymSemicolon then symbol (further continuing_rest) gives with_break

abbrev condition_written : FactoredRule ExpressionNode
condition_written = KwIf ▹ symbol (of expression) ◃ SymSemicolon ◃ SymBraceRight

abbrev break_condition : FactoredRule (Token → Attributes → ContinuingItems)
break_condition = condition_written gives with_condition

abbrev continuing_break : FactoredRule (Attributes → ContinuingItems)
continuing_break = one_token KwBreak then (break_more or break_condition) gives λ p. p.1 p.0

abbrev unbroken : FactoredRule UnattributedStatement
unbroken = symbol (further braced_part) or symbol (further ended_part)

abbrev continuing_item : FactoredRule (Attributes → ContinuingItems)
continuing_item = with_place unbroken then symbol (further continuing_rest) gives statement_first

abbrev plain_item : FactoredRule ContinuingItems
plain_item = symbol (further plain_statement) then symbol (further continuing_rest) gives with_item

abbrev after_them : FactoredRule (Attributes → ContinuingItems)
after_them = continuing_break or continuing_item

-- ---- `break`
break_more_is : (l : List StatementNode) (a : Attributes) (b : Token) (s s0 s1 : State)
    → reader (further attribute_list) s ≡ done a s0 → take KwBreak s0 ≡ done b s1
    → (go tables reader break_more s1 >>= λ f s'. done (put_before l (f b a)) s')
    ≡ (take SymSemicolon s1 >>= λ t s'. continuing_items_from (l ++ placed_statement (statement a
    UnattributedStatement.break_statement) (span_from (next_start s) s') ∷ []) s')
unfolding continuing_items_from
break_more_is l a b s s0 s1 g h =
    let node : Span → StatementNode =
    λ span. placed_statement (statement a UnattributedStatement.break_statement) span in
    bind_associates (go tables reader (one_token SymSemicolon then symbol (further continuing_rest)) s1)
    (λ p s'. done (with_break p) s') (λ f s'. done (put_before l (f b a)) s')
    ∙ pair_goes_on (take SymSemicolon s1) (reader (further continuing_rest))
    (λ p s'. done (put_before l (with_break p b a)) s')
    ∙ bind_alike (take SymSemicolon s1) _ _ (λ t s' k. after_more l
    (node (begun_by a (record { start = b.start; end = t.end }))) (reader (further continuing_rest) s')
    ∙ ap (λ (span : Span). following (l ++ node span ∷ []) (reader (further continuing_rest) s'))
    (ap (begun_by a) (two_tokens KwBreak SymSemicolon s0 b s1 t s' h k) ∙ attributes_begun s a s0 s' g))

break_condition_is : (l : List StatementNode) (a : Attributes) (b : Token) (s : State)
    → (go tables reader break_condition s >>= λ f s'. done (put_before l (f b a)) s')
    ≡ (break_if_rest_at a s >>= λ c s'. done (l, Some c) s')
unfolding break_if_rest_at
break_condition_is l a b s =
    bind_associates (go tables reader condition_written s) (λ e s'. done (with_condition e) s')
    (λ f s'. done (put_before l (f b a)) s')
    ∙ bind_alike (go tables reader condition_written s) _ _
    (λ e s' h. ap (λ xs. done (xs, Some (with_attributes a (break_if_of e))) s') (append-nil l))
    ∙ sym (bind_associates (go tables reader condition_written s)
    (λ e s'. done (with_attributes a (break_if_of e)) s') (λ c s'. done (l, Some c) s'))

continuing_break_is : (l : List StatementNode) (a : Attributes) (s s0 : State)
    → reader (further attribute_list) s ≡ done a s0
    → (go tables reader continuing_break s0 >>= λ f s'. done (put_before l (f a)) s')
    ≡ (take KwBreak s0 >>= λ t s'. after_break l (next_start s) a s')
continuing_break_is l a s s0 g =
    ap (λ m. m >>= λ f s'. done (put_before l (f a)) s')
    (given_is (take KwBreak s0) (go tables reader (break_more or break_condition)))
    ∙ bind_associates (take KwBreak s0) (λ b s'. given b
    (go tables reader (break_more or break_condition)) s') (λ f s'. done (put_before l (f a)) s')
    ∙ bind_alike (take KwBreak s0) _ _ (λ b s1 h. bind_associates (go tables reader
    (break_more or break_condition) s1) (λ f s'. done (f b) s') (λ f s'. done (put_before l (f a)) s')
    ∙ bind_cond (is_at SymSemicolon s1) (go tables reader break_more s1)
    (go tables reader break_condition s1) (λ f s'. done (put_before l (f b a)) s')
    ∙ ap₂ (cond (is_at SymSemicolon s1)) (break_more_is l a b s s0 s1 g h) (break_condition_is l a b s1))

-- ---- other statements
continuing_item_is : (l : List StatementNode) (a : Attributes) (s s' : State)
    → reader (further attribute_list) s ≡ done a s' → is_at KwBreak s' ≡ false
    → (go tables reader continuing_item s' >>= λ f s''. done (put_before l (f a)) s'')
    ≡ (statement_after_at a (next_start s) s' >>= λ n s''. continuing_items_from (l ++ n ∷ []) s'')
unfolding statement_after_at continuing_items_from
continuing_item_is l a s s' h n =
    statement_item_is l a s s' h (go tables reader unbroken s') (reader (further continuing_rest))
    ∙ ap (λ m. item_made l a s m (reader (further continuing_rest))) (unbroken_is s' n)

-- what is taken where a test fails need be alike only there
else_alike : {A : Type 0} (b : Bool) (x y y' : A) → (b ≡ false → y ≡ y') → cond b x y ≡ cond b x y'
else_alike true x y y' h = refl
else_alike false x y y' h = h refl

attributed_is : (l : List StatementNode) (s : State)
    → following l (go tables reader (attributes_before taken_by after_them) s)
    ≡ (reader (further attribute_list) s >>= λ a s'. after_continuing_attributes l (next_start s) a s')
attributed_is l s =
    ap (following l) (pair_goes_on (reader (further attribute_list) s) (go tables reader after_them)
    (λ p s'. done (taken_by p.0 p.1) s'))
    ∙ bind_associates (reader (further attribute_list) s) (λ a s'. go tables reader after_them s'
    >>= λ f s''. done (taken_by a f) s'') (λ p s'. done (put_before l p) s')
    ∙ bind_alike (reader (further attribute_list) s) _ _ (λ a s' h. bind_associates (go tables
    reader after_them s') (λ f s''. done (taken_by a f) s'') (λ p s''. done (put_before l p) s'')
    ∙ bind_cond (is_at KwBreak s') (go tables reader continuing_break s')
    (go tables reader continuing_item s') (λ f s''. done (put_before l (f a)) s'')
    ∙ ap (λ m. cond (is_at KwBreak s') m (go tables reader continuing_item s'
    >>= λ f s''. done (put_before l (f a)) s'')) (continuing_break_is l a s s' h)
    ∙ else_alike (is_at KwBreak s') _ _ _ (continuing_item_is l a s s' h))

pub continuing_items_are : (statements : List StatementNode) (s : State)
    → continuing_items_from statements s ≡ continuing_items_turn statements s
unfolding continuing_items_from continuing_items_turn continuing_rest_at
continuing_items_are l s =
    let others : Read ContinuingItems = cond (is_any (SymParenLeft ∷ SymSemicolon ∷ []) s)
    (go tables reader plain_item s) (go tables reader (attributes_before taken_by after_them) s) in
    ap (following l) (continuing_rest_is s)
    ∙ bind_cond (is_at SymBraceRight s) (take SymBraceRight s >>= λ t s'. done ([], None) s') others
    (λ p s'. done (put_before l p) s')
    ∙ ap₂ (cond (is_at SymBraceRight s)) (closed_is l None (take SymBraceRight s))
    (bind_cond (is_any (SymParenLeft ∷ SymSemicolon ∷ []) s) (go tables reader plain_item s)
    (go tables reader (attributes_before taken_by after_them) s) (λ p s'. done (put_before l p) s')
    ∙ ap₂ (cond (is_any (SymParenLeft ∷ SymSemicolon ∷ []) s)) (item_is l
    (reader (further plain_statement) s) (reader (further continuing_rest))) (attributed_is l s))

pub continuing_rest_from : (s : State) → reader (further continuing_rest) s ≡ continuing_items_from [] s
unfolding continuing_items_from
continuing_rest_from s = after_none (reader (further continuing_rest) s)
