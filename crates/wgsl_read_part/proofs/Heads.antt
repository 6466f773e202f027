-- Rules that begin with a head, by the head and what follows it.
use Rattle.std.proofs.Common.{◌≡◌, ◌∙◌, ℕ, sym}
use Rattle.std.specs.Prelude.{Option}
use Rattle.grammar.specs.Grammar.{Grammar.symbol}
use Rattle.grammar.specs.Notation.{◌then◌, ◌▹◌}
use Rattle.grammar.specs.States.{State, Read, ◌>>=◌, take, go}
use Rattle.grammar.proofs.Binding.{bind_associates, bind_alike, pair_goes_on}
use Rattle.wgsl_model.specs.Tokens.ClassTable.{SymBraceLeft, SymParenLeft, KwFor, KwSwitch}
use Rattle.wgsl_model.specs.Trees.Expressions.{ExpressionNode}
use Rattle.wgsl_model.specs.Trees.Attributes.{Attributes}
use Rattle.wgsl_model.specs.Trees.Statements.{StatementNode}
use Rattle.wgsl_model.specs.Grammar.Symbols.{Symbol.expression}
use Rattle.wgsl_theory_grammar.specs.Factored.{FactoredSymbol.of, FactoredSymbol.further, Further.attribute_list, Further.init_part, Further.condition_part, Further.update_part, FactoredRule}
use Rattle.wgsl_theory_grammar.specs.Tables.{tables}
use Rattle.wgsl_theory_grammar.specs.Reader.{reader}
use Rattle.wgsl_read_simple.proofs.Binding.{triple_goes_on, token_before}
use Rattle.wgsl_read_part.specs.Heads.{condition_at, block_start_at, block_start_after_at, switch_head_at, for_header_at}

-- a keyword, a condition, and more
abbrev pub with_condition : {B : Type 0} → ℕ → FactoredRule B → FactoredRule (ExpressionNode × B)
with_condition class rule = class ▹ symbol (of expression) then rule

pub condition_first : {B C : Type 0} (class : ℕ) (rule : FactoredRule B)
    (f : ExpressionNode × B → State → Read C) (s : State)
    → (go tables reader (with_condition class rule) s >>= f)
    ≡ (condition_at class s >>= λ e s'. go tables reader rule s' >>= λ b s''. f (e, b) s'')
unfolding condition_at
condition_first class rule f s =
    token_before (take class s) (go tables reader (symbol (of expression) then rule)) f
    ∙ bind_alike (take class s) _ _ (λ t s' h. pair_goes_on (reader (of expression) s') (go tables reader rule) f)
    ∙ sym (bind_associates (take class s) (λ t s'. reader (of expression) s')
    (λ e s'. go tables reader rule s' >>= λ b s''. f (e, b) s''))

-- attributes, `{`, and more
abbrev pub with_block_start : {B : Type 0} → FactoredRule B → FactoredRule (Attributes × B)
with_block_start rule = symbol (further attribute_list) then SymBraceLeft ▹ rule

start_goes_on : {C : Type 0} (f : Attributes → State → Read C) (s : State) → (block_start_at s >>= f)
    ≡ (reader (further attribute_list) s >>= λ a s'. take SymBraceLeft s' >>= λ t s''. f a s'')
unfolding block_start_at
start_goes_on f s = bind_associates (reader (further attribute_list) s) _ f
    ∙ bind_alike (reader (further attribute_list) s) _ _ (λ a s' h. bind_associates (take SymBraceLeft s') _ f)

pub block_start_first : {B C : Type 0} (rule : FactoredRule B) (f : Attributes × B → State → Read C) (s : State)
    → (go tables reader (with_block_start rule) s >>= f)
    ≡ (block_start_at s >>= λ a s'. go tables reader rule s' >>= λ b s''. f (a, b) s'')
block_start_first rule f s =
    pair_goes_on (reader (further attribute_list) s) (go tables reader (SymBraceLeft ▹ rule)) f
    ∙ bind_alike (reader (further attribute_list) s) _ _
    (λ a s' h. token_before (take SymBraceLeft s') (go tables reader rule) (λ b s''. f (a, b) s''))
    ∙ sym (start_goes_on (λ a s'. go tables reader rule s' >>= λ b s''. f (a, b) s'') s)

-- a keyword, attributes, `{`, and more
pub block_start_after_first : {B C : Type 0} (class : ℕ) (rule : FactoredRule B)
    (f : Attributes × B → State → Read C) (s : State)
    → (go tables reader (class ▹ with_block_start rule) s >>= f)
    ≡ (block_start_after_at class s >>= λ a s'. go tables reader rule s' >>= λ b s''. f (a, b) s'')
unfolding block_start_after_at
block_start_after_first class rule f s =
    token_before (take class s) (go tables reader (with_block_start rule)) f
    ∙ bind_alike (take class s) _ _ (λ t s' h. block_start_first rule f s')
    ∙ sym (bind_associates (take class s) (λ t s'. block_start_at s')
    (λ a s'. go tables reader rule s' >>= λ b s''. f (a, b) s''))

-- `switch`, an expression, attributes, `{`, and more
abbrev pub with_switch_head : {B : Type 0} → FactoredRule B → FactoredRule (ExpressionNode × (Attributes × B))
with_switch_head rule = KwSwitch ▹ symbol (of expression) then with_block_start rule

switch_head_goes_on : {C : Type 0} (f : ExpressionNode × Attributes → State → Read C) (s : State)
    → (switch_head_at s >>= f) ≡ (take KwSwitch s
    >>= λ t s1. reader (of expression) s1 >>= λ e s2. block_start_at s2 >>= λ a s3. f (e, a) s3)
unfolding switch_head_at
switch_head_goes_on f s =
    bind_associates (take KwSwitch s) _ f
    ∙ bind_alike (take KwSwitch s) _ _ (λ t s1 h. bind_associates (reader (of expression) s1) _ f
    ∙ bind_alike (reader (of expression) s1) _ _ (λ e s2 h2. bind_associates (block_start_at s2) _ f))

pub switch_head_first : {B C : Type 0} (rule : FactoredRule B)
    (f : ExpressionNode × (Attributes × B) → State → Read C) (s : State)
    → (go tables reader (with_switch_head rule) s >>= f)
    ≡ (switch_head_at s >>= λ h s'. go tables reader rule s' >>= λ b s''. f (h.0, (h.1, b)) s'')
switch_head_first rule f s =
    token_before (take KwSwitch s) (go tables reader (symbol (of expression) then with_block_start rule)) f
    ∙ bind_alike (take KwSwitch s) _ _
    (λ t s1 h. pair_goes_on (reader (of expression) s1) (go tables reader (with_block_start rule)) f
    ∙ bind_alike (reader (of expression) s1) _ _ (λ e s2 h2. block_start_first rule (λ p s'. f (e, p) s') s2))
    ∙ sym (switch_head_goes_on (λ h s'. go tables reader rule s' >>= λ b s''. f (h.0, (h.1, b)) s'') s)

-- the header of a `for`, and more
abbrev pub Header : Type 0
Header = Option StatementNode × (Option ExpressionNode × Option StatementNode)

abbrev header_parts : {B : Type 0} → FactoredRule B
    → FactoredRule (Option StatementNode × (Option ExpressionNode × (Option StatementNode × B)))
header_parts rule = symbol (further init_part) then symbol (further condition_part)
    then symbol (further update_part) then rule

abbrev pub with_for_header : {B : Type 0} → FactoredRule B
    → FactoredRule (Option StatementNode × (Option ExpressionNode × (Option StatementNode × B)))
with_for_header rule = KwFor ▹ SymParenLeft ▹ header_parts rule

for_header_goes_on : {C : Type 0} (f : Header → State → Read C) (s : State)
    → (for_header_at s >>= f) ≡ (take KwFor s >>= λ t s1. take SymParenLeft s1
    >>= λ u s2. reader (further init_part) s2 >>= λ i s3. reader (further condition_part) s3
    >>= λ c s4. reader (further update_part) s4 >>= λ w s5. f (i, (c, w)) s5)
unfolding for_header_at
for_header_goes_on f s =
    bind_associates (take KwFor s) _ f
    ∙ bind_alike (take KwFor s) _ _ (λ t s1 h. bind_associates (take SymParenLeft s1) _ f
    ∙ bind_alike (take SymParenLeft s1) _ _ (λ u s2 h2. bind_associates (reader (further init_part) s2) _ f
    ∙ bind_alike (reader (further init_part) s2) _ _
    (λ i s3 h3. bind_associates (reader (further condition_part) s3) _ f
    ∙ bind_alike (reader (further condition_part) s3) _ _
    (λ c s4 h4. bind_associates (reader (further update_part) s4) _ f))))

pub for_header_first : {B C : Type 0} (rule : FactoredRule B) (f : Option StatementNode
    × (Option ExpressionNode × (Option StatementNode × B)) → State → Read C) (s : State)
    → (go tables reader (with_for_header rule) s >>= f)
    ≡ (for_header_at s >>= λ h s'. go tables reader rule s' >>= λ b s''. f (h.0, (h.1.0, (h.1.1, b))) s'')
for_header_first rule f s =
    token_before (take KwFor s) (go tables reader (SymParenLeft ▹ header_parts rule)) f
    ∙ bind_alike (take KwFor s) _ _
    (λ t s1 h. token_before (take SymParenLeft s1) (go tables reader (header_parts rule)) f
    ∙ bind_alike (take SymParenLeft s1) _ _ (λ u s2 h2. triple_goes_on (reader (further init_part) s2)
    (reader (further condition_part)) (go tables reader (symbol (further update_part) then rule)) f
    ∙ bind_alike (reader (further init_part) s2) _ _ (λ i s3 h3. bind_alike (reader (further condition_part) s3) _ _
    (λ c s4 h4. pair_goes_on (reader (further update_part) s4) (go tables reader rule) (λ p s'. f (i, (c, p)) s')))))
    ∙ sym (for_header_goes_on (λ h s'. go tables reader rule s' >>= λ b s''. f (h.0, (h.1.0, (h.1.1, b))) s'') s)
