-- A chain of growths is read at an operand, operand by operand.
use Rattle.std.proofs.Common.{◌≡◌, ℕ, zero, suc, Bool, true, false, cond, List, [], ◌∷◌, length, refl, sym, ap, ◌∙◌}
use Rattle.grammar.specs.Tokens.{Span}
use Rattle.grammar.specs.States.{State, Stop.never, Read, Read.done, Read.stop, ◌>>=◌, is_at, is_any, next_start, span_from, turns_in, turns}
use Rattle.grammar.proofs.Reading.Beginnings.{pick, cond_yes}
use Rattle.grammar.proofs.States.{Shortens, turns_are}
use Rattle.grammar.proofs.Binding.{bind_associates, bind_alike, pair_goes_on}
use Rattle.wgsl_model.specs.Trees.Expressions.{ExpressionNode}
use Rattle.wgsl_model.specs.Trees.Operators.{BinaryOperator}
use Rattle.wgsl_theory_grammar.specs.Factored.{Growth, with_operand}
use Rattle.wgsl_theory_grammar.specs.Factored.{grown as joined_after}
use Rattle.wgsl_read_expression.specs.Growing.{read_growth}

-- what is read grows an operand
abbrev pub applied : ExpressionNode → Growth → State → Read ExpressionNode
applied e f s = done (f e) s

-- what goes on after a choice
pub bind_pick : {A B : Type 0} (b : Bool) (x y : Read A) (f : A → State → Read B)
    → (pick b x y >>= f) ≡ pick b (x >>= f) (y >>= f)
bind_pick true x y f = refl
bind_pick false x y f = refl

-- an item grows the growth of an operand as it grows the operand
abbrev pub GrowsBy : {B : Type 0} → (Growth → B → Span → Growth) → (ExpressionNode → B → ExpressionNode) → Type 0
GrowsBy {B} f step = (g : Growth) (b : B) (span : Span) (e : ExpressionNode) → f g b span e ≡ step (g e) b

grows_in : {B : Type 0} (f : Growth → B → Span → Growth) (step : ExpressionNode → B → ExpressionNode)
    → GrowsBy f step
    → (c : List ℕ) (r : State → Read B) (start other k : ℕ) (g : Growth) (e : ExpressionNode) (s : State)
    → (turns_in k f c r start g s >>= applied e) ≡ turns_in k (λ e b span. step e b) c r other (g e) s
grows_in f step h c r start other zero g e s = bind_pick (is_any c s) (stop never) (done g s) (applied e)
grows_in f step h c r start other (suc k) g e s =
    bind_pick (is_any c s) (r s >>= λ b s'. turns_in k f c r start (f g b (span_from start s')) s')
    (done g s) (applied e)
    ∙ ap (λ (x : Read ExpressionNode). pick (is_any c s) x (done (g e) s))
    (bind_associates (r s) _ _ ∙ bind_alike (r s) _ _ (λ b s' is.
    grows_in f step h c r start other k (f g b (span_from start s')) e s' ∙ ap (λ (x : ExpressionNode).
    turns_in k (λ e b span. step e b) c r other x s') (h g b (span_from start s') e)))

-- a chain of growths at an operand is a chain of operands
pub grows : {B : Type 0} (f : Growth → B → Span → Growth) (step : ExpressionNode → B → ExpressionNode)
    → GrowsBy f step
    → (c : List ℕ) (r : State → Read B) (start other : ℕ) (g : Growth) (e : ExpressionNode) (s : State)
    → (turns f c r start g s >>= applied e) ≡ turns (λ e b span. step e b) c r other (g e) s
grows f step h c r start other g e s = grows_in f step h c r start other (length s.rest) g e s

-- one item more after an operand, where the next token begins one
pub grows_by_turns : {B : Type 0} (f : Growth → B → Span → Growth) (step : ExpressionNode → B → ExpressionNode)
    → GrowsBy f step → (c : List ℕ) (r : State → Read B) → Shortens r
    → (growth : State → Read Growth) → ((s : State) → growth s ≡ turns f c r (next_start s) (λ e. e) s)
    → (e : ExpressionNode) (s : State)
    → read_growth e growth s ≡ cond (is_any c s) (r s >>= λ b s'. read_growth (step e b) growth s') (done e s)
grows_by_turns f step h c r H growth k e s =
    whole e s ∙ turns_are (λ e b span. step e b) c r H 0 e s
    ∙ ap (λ (x : Read ExpressionNode). cond (is_any c s) x (done e s))
    (bind_alike (r s) _ _ (λ b s' is. sym (whole (step e b) s')))
  where
    whole : (e : ExpressionNode) (s : State) → read_growth e growth s ≡ turns (λ e b span. step e b) c r 0 e s
    whole e s = ap (λ m. m >>= applied e) (k s) ∙ grows f step h c r (next_start s) 0 (λ e. e) e s

-- one part grown by another
pub grown_pair : (m : Read ExpressionNode) (r : State → Read Growth)
    → ((m >>= λ e s. r s >>= λ f s'. done (e, f) s')
    >>= λ (p : ExpressionNode × Growth) s. done (p.1 p.0) s) ≡ (m >>= λ e s. read_growth e r s)
grown_pair m r = pair_goes_on m r _

-- two growths, one after the other
pub grown_twice : (e : ExpressionNode) (m : Read Growth) (r : State → Read Growth)
    → (((m >>= λ f s. r s >>= λ g s'. done (f, g) s') >>= λ (p : Growth × Growth) s.
    done (λ e. p.1 (p.0 e)) s) >>= applied e) ≡ ((m >>= applied e) >>= λ e s. read_growth e r s)
grown_twice e m r = bind_associates (m >>= λ f s. r s >>= λ g s'. done (f, g) s') _ (applied e)
    ∙ pair_goes_on m r _ ∙ sym (bind_associates m (applied e) _)

-- an operator and an operand after an operand
pub grown_once : (e : ExpressionNode) (m : Read BinaryOperator) (r : State → Read ExpressionNode)
    → (((m >>= λ op s. r s >>= λ right s'. done (op, right) s') >>= λ p s. done (with_operand p) s)
    >>= applied e) ≡ (m >>= λ op s. r s >>= λ right s'. done (with_operand (op, right) e) s')
grown_once e m r = bind_associates (m >>= λ op s. r s >>= λ right s'. done (op, right) s') _ (applied e)
    ∙ pair_goes_on m r _

-- one operator and operand at least, where the operator is there
pub grows_once_or_more : (c : ℕ) (r : State → Read (BinaryOperator × ExpressionNode)) → Shortens r
    → (e : ExpressionNode) (s : State) → is_at c s ≡ true
    → (((r s >>= λ p s'. done (with_operand p) s') >>= λ g s'. turns joined_after (c ∷ []) r (next_start s) g s')
    >>= applied e) ≡ turns (λ (left : ExpressionNode) (p : BinaryOperator × ExpressionNode) span.
    with_operand p left) (c ∷ []) r 0 e s
grows_once_or_more c r H e s at =
    bind_associates (r s >>= λ p s'. done (with_operand p) s') _ (applied e) ∙ bind_associates (r s) _ _
    ∙ bind_alike (r s) _ _ (λ p s' is. grows joined_after (λ left p. with_operand p left)
    (λ g p span e. refl) (c ∷ []) r (next_start s) 0 (with_operand p) e s')
    ∙ sym (turns_are (λ (left : ExpressionNode) (p : BinaryOperator × ExpressionNode) span.
    with_operand p left) (c ∷ []) r H 0 e s ∙ cond_yes (is_at c s) _ _ at)

-- items that make the same of each other from one place as from another
pub turns_alike : {A B : Type 0} (f f' : A → B → Span → A) (c : List ℕ) (r : State → Read B) (start other : ℕ)
    → ((a : A) (b : B) (s : State) → f a b (span_from start s) ≡ f' a b (span_from other s))
    → (a : A) (s : State) → turns f c r start a s ≡ turns f' c r other a s
turns_alike {A} f f' c r start other h a s = go_on (length s.rest) a s
  where
    go_on : (k : ℕ) (a : A) (s : State) → turns_in k f c r start a s ≡ turns_in k f' c r other a s
    go_on zero a s = refl
    go_on (suc k) a s = ap (λ (x : Read A). pick (is_any c s) x (done a s))
        (bind_alike (r s) _ _ (λ b s' is. go_on k (f a b (span_from start s')) s'
        ∙ ap (λ (x : A). turns_in k f' c r other x s') (h a b s')))
