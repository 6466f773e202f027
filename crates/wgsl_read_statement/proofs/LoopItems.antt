-- What the body of a `loop` holds, item by item.
use Rattle.std.proofs.Common.{◌≡◌, ◌∙◌, ℕ, sym, ap, ap₂, List, [], ◌∷◌, ◌++◌, cond, append-nil}
use Rattle.std.specs.Prelude.{Option, Some, None}
use Rattle.grammar.specs.Grammar.{Grammar.symbol}
use Rattle.grammar.specs.Notation.{◌then◌, ◌or◌, ◌gives◌, ◌◃◌}
use Rattle.grammar.specs.States.{State, Read, Read.done, ◌>>=◌, is_at, is_any, take, next_start, go}
use Rattle.grammar.proofs.Binding.{bind_associates, bind_alike, bind_cond, pair_goes_on}
use Rattle.wgsl_model.specs.Tokens.ClassTable.{SymBraceRight, SymParenLeft, SymSemicolon, KwContinuing}
use Rattle.wgsl_model.specs.Trees.Attributes.{Attributes}
use Rattle.wgsl_model.specs.Trees.Statements.{ContinuingStatement, StatementNode, continuing_statement_of}
use Rattle.wgsl_theory_grammar.specs.Factored.{FactoredSymbol.further, FactoredRule, Further.attribute_list, Further.loop_rest, Further.plain_statement, Further.continuing_part, attributes_before, taken_by, with_place, statement_first, with_continuing}
use Rattle.wgsl_theory_grammar.specs.Tables.{tables}
use Rattle.wgsl_theory_grammar.specs.Reader.{reader}
use Rattle.wgsl_theory_grammar.specs.StatementRules.{loop_rest_at}
use Rattle.wgsl_theory_grammar.proofs.StatementEquations.{loop_rest_is}
use Rattle.wgsl_read_attribute.specs.After.{after_attributes}
use Rattle.wgsl_read_simple.proofs.Binding.{token_after, put_before, following, after_none}
use Rattle.wgsl_read_part.proofs.Items.{closed_is, with_item, item_is}
use Rattle.wgsl_read_statement.specs.Statements.{statement_after_at}
use Rattle.wgsl_read_statement.proofs.Statements.{part_written, statement_part_is}
use Rattle.wgsl_read_statement.proofs.StatementItems.{item_made, statement_item_is}

abbrev LoopItems : Type 0
LoopItems = List StatementNode × Option ContinuingStatement

-- further statements, after those that were read so far
unfoldable pub loop_items_from : List StatementNode → State → Read LoopItems
loop_items_from statements s = following statements (reader (further loop_rest) s)

-- after attributes that begin at a place: `continuing` and the end, or a statement and more
abbrev after_loop_attributes : List StatementNode → ℕ → Attributes → State → Read LoopItems
after_loop_attributes statements start a s = cond (is_at KwContinuing s)
    (after_attributes continuing_statement_of a (reader (further continuing_part)) s
    >>= λ c s'. take SymBraceRight s' >>= λ t s''. done (statements, Some c) s'')
    (statement_after_at a start s >>= λ n s'. loop_items_from (statements ++ n ∷ []) s')

unfoldable pub loop_items_turn : List StatementNode → State → Read LoopItems
loop_items_turn statements s = cond (is_at SymBraceRight s)
    (take SymBraceRight s >>= λ t s'. done (statements, None) s')
    (cond (is_any (SymParenLeft ∷ SymSemicolon ∷ []) s)
    (reader (further plain_statement) s >>= λ n s'. loop_items_from (statements ++ n ∷ []) s')
    (reader (further attribute_list) s >>= λ a s'. after_loop_attributes statements (next_start s) a s'))

-- as the grammar writes them
abbrev last_continuing : FactoredRule (Attributes → LoopItems)
last_continuing = symbol (further continuing_part) ◃ SymBraceRight gives with_continuing

abbrev loop_item : FactoredRule (Attributes → LoopItems)
loop_item = with_place part_written then symbol (further loop_rest) gives statement_first

abbrev plain_item : FactoredRule LoopItems
plain_item = symbol (further plain_statement) then symbol (further loop_rest) gives with_item

abbrev after_them : FactoredRule (Attributes → LoopItems)
after_them = last_continuing or loop_item

last_continuing_is : (l : List StatementNode) (a : Attributes) (s : State)
    → (go tables reader last_continuing s >>= λ f s'. done (put_before l (f a)) s')
    ≡ (after_attributes continuing_statement_of a (reader (further continuing_part)) s
    >>= λ c s'. take SymBraceRight s' >>= λ t s''. done (l, Some c) s'')
last_continuing_is l a s =
    bind_associates (go tables reader (symbol (further continuing_part) ◃ SymBraceRight) s)
    (λ p s'. done (with_continuing p) s') (λ f s'. done (put_before l (f a)) s')
    ∙ token_after (reader (further continuing_part) s) (take SymBraceRight)
    (λ p s'. done (put_before l (with_continuing p a)) s')
    ∙ bind_alike (reader (further continuing_part) s) _ _ (λ p s' h. bind_alike (take SymBraceRight s')
    _ _ (λ t s'' h'. ap (λ xs. done (xs, Some (continuing_statement_of a p)) s'') (append-nil l)))
    ∙ sym (bind_associates (reader (further continuing_part) s) (λ p s'. done (continuing_statement_of a p) s')
    (λ c s'. take SymBraceRight s' >>= λ t s''. done (l, Some c) s''))

loop_item_is : (l : List StatementNode) (a : Attributes) (s s' : State)
    → reader (further attribute_list) s ≡ done a s'
    → (go tables reader loop_item s' >>= λ f s''. done (put_before l (f a)) s'')
    ≡ (statement_after_at a (next_start s) s' >>= λ n s''. loop_items_from (l ++ n ∷ []) s'')
unfolding statement_after_at loop_items_from
loop_item_is l a s s' h =
    statement_item_is l a s s' h (go tables reader part_written s') (reader (further loop_rest))
    ∙ ap (λ m. item_made l a s m (reader (further loop_rest))) (statement_part_is s')

attributed_is : (l : List StatementNode) (s : State)
    → following l (go tables reader (attributes_before taken_by after_them) s)
    ≡ (reader (further attribute_list) s >>= λ a s'. after_loop_attributes l (next_start s) a s')
attributed_is l s =
    ap (following l) (pair_goes_on (reader (further attribute_list) s) (go tables reader after_them)
    (λ p s'. done (taken_by p.0 p.1) s'))
    ∙ bind_associates (reader (further attribute_list) s) (λ a s'. go tables reader after_them s'
    >>= λ f s''. done (taken_by a f) s'') (λ p s'. done (put_before l p) s')
    ∙ bind_alike (reader (further attribute_list) s) _ _ (λ a s' h. bind_associates (go tables
    reader after_them s') (λ f s''. done (taken_by a f) s'') (λ p s''. done (put_before l p) s'')
    ∙ bind_cond (is_at KwContinuing s') (go tables reader last_continuing s')
    (go tables reader loop_item s') (λ f s''. done (put_before l (f a)) s'')
    ∙ ap₂ (cond (is_at KwContinuing s')) (last_continuing_is l a s') (loop_item_is l a s s' h))

pub loop_items_are : (statements : List StatementNode) (s : State)
    → loop_items_from statements s ≡ loop_items_turn statements s
unfolding loop_items_from loop_items_turn loop_rest_at
loop_items_are l s =
    let others : Read LoopItems = cond (is_any (SymParenLeft ∷ SymSemicolon ∷ []) s)
    (go tables reader plain_item s) (go tables reader (attributes_before taken_by after_them) s) in
    ap (following l) (loop_rest_is s)
    ∙ bind_cond (is_at SymBraceRight s) (take SymBraceRight s >>= λ t s'. done ([], None) s') others
    (λ p s'. done (put_before l p) s')
    ∙ ap₂ (cond (is_at SymBraceRight s)) (closed_is l None (take SymBraceRight s))
    (bind_cond (is_any (SymParenLeft ∷ SymSemicolon ∷ []) s) (go tables reader plain_item s)
    (go tables reader (attributes_before taken_by after_them) s) (λ p s'. done (put_before l p) s')
    ∙ ap₂ (cond (is_any (SymParenLeft ∷ SymSemicolon ∷ []) s))
    (item_is l (reader (further plain_statement) s) (reader (further loop_rest))) (attributed_is l s))

pub loop_rest_from : (s : State) → reader (further loop_rest) s ≡ loop_items_from [] s
unfolding loop_items_from
loop_rest_from s = after_none (reader (further loop_rest) s)
