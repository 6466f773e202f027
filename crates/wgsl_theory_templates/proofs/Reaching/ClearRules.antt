-- What each symbol derives is clear, by a test of its right side: the tokens of a unit, and those
-- of a list of expressions inside a template list.
use Rattle.std.proofs.Common.{◌≡◌, Bool, true, false, ◌&&◌, ◌||◌, List, [], ◌∷◌, ◌++◌, inl, inr, refl, sym, ap, subst, ◌∙◌, append_assoc, append-nil}
use Rattle.grammar.specs.Tokens.{Token, Span}
use Rattle.grammar.specs.Grammar.{Grammar.empty, Grammar.token, Grammar.sequence, Grammar.choice, Grammar.mapped, Grammar.node, Grammar.checked, Grammar.symbol, Grammar.left_chain, Mode.checking, Chain, Chain.base, Chain.more, Means, Derives, is_among}
use Rattle.grammar.specs.Notation.{◌then◌}
use Rattle.grammar.specs.Tables.{subset}
use Rattle.grammar.proofs.Reading.Sets.{and_true, either, in_subset, apart}
use Rattle.grammar.proofs.Reading.Frame.{joined}
use Rattle.grammar.proofs.Reading.Depth.{roll}
use Rattle.wgsl_model.specs.Tokens.ClassTable.{SymComma, SymEqualEqual, SymGreaterThan, SymGreaterThanEqual, SymLessThan, SymLessThanEqual, SymNotEqual, SymShiftLeft, SymShiftRight}
use Rattle.wgsl_model.specs.Trees.Operators.{BinaryOperator, shift_right}
use Rattle.wgsl_model.specs.Trees.Expressions.{ExpressionNode}
use Rattle.wgsl_model.specs.Trees.Units.{TranslationUnit}
use Rattle.wgsl_model.specs.Grammar.ExpressionParts.{relational_operator, two}
use Rattle.wgsl_model.specs.Grammar.Symbols.{Symbol, template_list, expressions, unary_expression, shift_expression, relational_expression, expression, case_selector, unit, Value, Rule}
use Rattle.wgsl_model.specs.Grammar.Written.{written}
use Rattle.wgsl_theory_reread.proofs.Again.{D}
use Rattle.wgsl_theory_reread.proofs.Derived.{by_derivation}
use Rattle.wgsl_theory_templates.proofs.Reaching.Reach.{Place, outside, inside, reach}
use Rattle.wgsl_theory_templates.proofs.Reaching.Moves.{kinds}
use Rattle.wgsl_theory_templates.proofs.Reaching.Closes.{closes, unary_is_shift, ended, last_comma, comma, comma_moves}
use Rattle.wgsl_theory_templates.proofs.Reaching.After.{compared_closes, operand_is_clear, ending, ended_at, BeginsList, selector_closes}
use Rattle.wgsl_theory_templates.proofs.Reaching.Clear.{template_ends, AllClear, done, other_token, template, Need, any_tokens, rest_of_shift, rest_of_list, end_of_list, Meets, need, is_enough, enough, Cut, wider_cut, none_cut, both_cut, is_plain, token_cut, Cleared, derived, moved}

-- ---- the test
-- the items of lists that are expressions
abbrev begins_list : Symbol → Bool
begins_list expression = true
begins_list case_selector = true
begins_list n = false

-- a comma and an item of such a list, or a comma at its end
abbrev goes_on : {A : Type 0} → Need → Rule A → Bool
goes_on rest_of_list (mapped f (sequence (token s) (symbol n))) = subset s (SymComma ∷ []) && begins_list n
goes_on end_of_list (token s) = subset s (SymComma ∷ [])
goes_on n g = false

-- before what meets n, what a right side derives meets m
abbrev leads : {A : Type 0} → Need → Need → Rule A → Bool
leads any_tokens n g = true
leads rest_of_shift n g = false
leads rest_of_list n g = ending false g || goes_on n g
leads end_of_list n g = ending false g

-- one of the needs passes
abbrev some_need : (Need → Bool) → Bool
some_need f = f any_tokens || (f rest_of_list || f end_of_list)

-- what a right side derives is clear before what meets n
abbrev clears : {A : Type 0} → Need → Rule A → Bool
clears n (empty a) = true
clears n (token s) = is_plain s
clears n (sequence g h) = clears n h && some_need (λ m. leads m n h && clears m g)
clears n (choice g h) = clears n g && clears n h
clears n (mapped f g) = clears n g
clears n (node f g) = clears n g
clears n (checked f g) = clears n g
clears n (symbol m) = is_enough n (need m)
clears n (left_chain f g h) = some_need (λ m. is_enough n m && (leads m m h && (clears m g && clears m h)))

-- ---- what passes the test is clear
that_need : (f : Need → Bool) → some_need f ≡ true → (m : Need) × f m ≡ true
that_need f e = elim (either (f any_tokens) _ e) [
  | inl a ↦ (any_tokens, a)
  | inr b ↦ elim (either (f rest_of_list) _ b) [ inl a ↦ (rest_of_list, a) | inr a ↦ (end_of_list, a) ]
]

abbrev Leads : {A : Type 0} → Need → Need → (A → List Token → List Token → Type 0) → Type 0
Leads {A} m n P = (v : A) (xs ys : List Token) → P v xs ys → (p : Place) → Meets n p ys → Meets m p xs

closed_by : (n : Symbol) → begins_list n ≡ true → BeginsList n
closed_by expression e = closes
closed_by case_selector e = selector_closes
closed_by n e = absurd cc

led_on : {A : Type 0} (n : Need) (g : Rule A) → goes_on n g ≡ true → Leads rest_of_list n (Means checking D g)
led_on rest_of_list (mapped f (sequence (token s) (symbol n))) e v xs ys (((t, w), is, (us, (c, i), d))) p q h =
    let w' = and_true (subset s (SymComma ∷ [])) (begins_list n) e in
    let known : is_among t.class (SymComma ∷ []) ≡ true = in_subset t.class s (SymComma ∷ []) w'.0 c in
    let past : reach p 0 0 (kinds xs) ≡ reach p 0 0 (kinds us) = ap (λ (z : List Token). reach p 0 0
    (kinds z)) i ∙ (comma_moves t known).reached (λ j f. reach p j f (kinds us)) in
    let l = closed_by n w'.1 w us ys d p q (sym past ∙ h) in
    comma t us i known l.0 l.1
led_on end_of_list (token s) e v xs ys d p q h = last_comma v ys d.1 (in_subset v.class s (SymComma ∷ []) e d.0) q
led_on n g e v xs ys d p q h = absurd cc

led : {A : Type 0} (m n : Need) (g : Rule A) → leads m n g ≡ true → Leads m n (Means checking D g)
led any_tokens n g e v xs ys d p q = tt
led rest_of_shift n g e v xs ys d p q = absurd cc
led rest_of_list n g e v xs ys d p q = elim (either (ending false g) (goes_on n g) e) [
  | inl a ↦ λ h. ended (ended_at g a v xs ys d)
  | inr b ↦ led_on n g b v xs ys d p q
]
led end_of_list n g e v xs ys d p q = ended_at g e v xs ys d

abbrev Clears : {A : Type 0} → Need → (A → List Token → List Token → Type 0) → Type 0
Clears {A} n P = (v : A) (xs ys : List Token) → P v xs ys → Cut n xs ys

chain_clears : {A B : Type 0} (n : Need) (f : A → B → Span → A) (g : Rule A) (h : Rule B)
    → Clears n (Means checking Cleared g) → leads n n h ≡ true → Clears n (Means checking Cleared h)
    → (xs : List Token) (v : A) (ys : List Token)
    → Chain f (Means checking Cleared g) (Means checking Cleared h) xs v ys → Cut n xs ys
chain_clears n f g h G l H xs _ _ (base v ys d) = G v xs ys d
chain_clears n f g h G l H xs _ _ (more v w us ys c i) =
    let b = H w us ys i in
    both_cut (chain_clears n f g h G l H xs v us c) b
    (λ p zs q. led n n h l w (b.tokens ++ zs) zs (moved h w us ys b.tokens b.whole (derived h w us ys i) zs) p q)

clear : {A : Type 0} (n : Need) (g : Rule A) → clears n g ≡ true → Clears n (Means checking Cleared g)
clear n (empty a) e v xs ys d = none_cut d.1
clear n (token s) e v xs ys d = token_cut s e d.0 d.1
clear n (sequence g h) e v xs ys (us, d, i) =
    let t = and_true (clears n h) _ e in
    let (m, s) = that_need (λ m. leads m n h && clears m g) t.1 in
    let r = and_true (leads m n h) (clears m g) s in
    let b = clear n h t.0 v.1 us ys i in
    both_cut (clear m g r.1 v.0 xs us d) b (λ p zs q. led m n h r.0 v.1 (b.tokens ++ zs) zs
    (moved h v.1 us ys b.tokens b.whole (derived h v.1 us ys i) zs) p q)
clear n (choice g h) e v xs ys (inl d) = clear n g (and_true (clears n g) (clears n h) e).0 v xs ys d
clear n (choice g h) e v xs ys (inr d) = clear n h (and_true (clears n g) (clears n h) e).1 v xs ys d
clear n (mapped f g) e v xs ys d = clear n g e d.0 xs ys d.2
clear n (node f g) e v xs ys d = clear n g e d.0 xs ys d.2
clear n (checked f g) e v xs ys d = clear n g e v xs ys d.1
clear n (symbol m) e v xs ys d = wider_cut e d.1
clear n (left_chain f g h) e v xs ys d =
    let (m, s) = that_need (λ m. is_enough n m && (leads m m h && (clears m g && clears m h))) e in
    let r = and_true (is_enough n m) (leads m m h && (clears m g && clears m h)) s in
    let l = and_true (leads m m h) (clears m g && clears m h) r.1 in
    let c = and_true (clears m g) (clears m h) l.1 in
    wider_cut r.0 (chain_clears m f g h (clear m g c.0) l.0 (clear m h c.1) xs v ys d)

-- ---- what the test does not pass
-- a template list is passed over whole, and clear inside
template_list_clears : Clears any_tokens (Means checking Cleared (written template_list))
template_list_clears v xs ys d =
    let start = d.0.0 in
    let ms = d.2.0 in
    let body = d.2.2 in
    let items = body.0.0 in
    let end = body.0.1 in
    let ns = body.2.0 in
    let inner = clear end_of_list (written expressions) refl items ms ns body.2.1 in
    let whole : D expressions items (inner.tokens ++ []) [] =
    roll checking written expressions items (inner.tokens ++ []) [] (moved (written expressions)
    items ms ns inner.tokens inner.whole (derived (written expressions) items ms ns body.2.1) []) in
    record {
      tokens = start ∷ (inner.tokens ++ (end ∷ []));
      whole = d.2.1.1 ∙ ap (λ (z : List Token). start ∷ z)
          (joined inner.tokens (end ∷ []) ms ns ys inner.whole body.2.2.1);
      clear = λ p zs h.
          subst (λ (z : List Token). AllClear p (start ∷ z) zs) (sym (append_assoc inner.tokens (end ∷ []) zs))
          (template p start end inner.tokens zs zs items d.2.1.0 body.2.2.0
          (subst (λ (z : List Token). D expressions items z []) (append-nil inner.tokens) whole)
          (subst (λ (z : List Token). AllClear inside z []) (append-nil inner.tokens)
          (inner.clear inside [] refl)) (done p zs));
    }

-- the token of a comparison's operator
operator_token : (o : BinaryOperator) (xs ys : List Token)
    → Means checking Cleared relational_operator o xs ys
    → (t : Token) × (is_among t.class template_ends ≡ false) × (xs ≡ t ∷ ys)
operator_token o xs ys (inl d) = (d.0, apart d.0.class (SymLessThan ∷ []) template_ends refl d.2.0, d.2.1)
operator_token o xs ys (inr (inl d)) = (d.0, apart d.0.class (SymGreaterThan ∷ []) template_ends refl d.2.0, d.2.1)
operator_token o xs ys (inr (inr (inl d))) =
    (d.0, apart d.0.class (SymLessThanEqual ∷ []) template_ends refl d.2.0, d.2.1)
operator_token o xs ys (inr (inr (inr (inl d)))) =
    (d.0, apart d.0.class (SymGreaterThanEqual ∷ []) template_ends refl d.2.0, d.2.1)
operator_token o xs ys (inr (inr (inr (inr (inl d))))) =
    (d.0, apart d.0.class (SymEqualEqual ∷ []) template_ends refl d.2.0, d.2.1)
operator_token o xs ys (inr (inr (inr (inr (inr d))))) =
    (d.0, apart d.0.class (SymNotEqual ∷ []) template_ends refl d.2.0, d.2.1)

-- an operator and its second operand, which is a shift
operator_clears : (m n : Need) → is_enough m n ≡ true → is_enough m rest_of_shift ≡ true
    → (t : Token) (v : ExpressionNode) (xs ms ys : List Token)
    → is_among t.class template_ends ≡ false → xs ≡ t ∷ ms
    → (operand : Cut n ms ys) → ((zs : List Token) → D shift_expression v (operand.tokens ++ zs) zs)
    → Cut m xs ys
operator_clears m n e f t v xs ms ys other w operand shift = record {
  tokens = t ∷ operand.tokens;
  whole = w ∙ ap (λ (z : List Token). t ∷ z) operand.whole;
  clear = λ p zs g.
      other_token p t (operand.tokens ++ zs) zs other (λ less none. operand_is_clear v (operand.tokens ++ zs) zs
      (shift zs) p (enough m rest_of_shift f p zs g) none) (operand.clear p zs (enough m n e p zs g));
}

-- a shift: before its operator all tokens may be
shift_expression_clears : Clears rest_of_shift (Means checking Cleared (written shift_expression))
shift_expression_clears v xs ys (inl d) = wider_cut refl d.1
shift_expression_clears v xs ys (inr (inl d)) =
    let operator = d.2.2.1 in
    let second = d.2.2.2 in
    let operand = second.1 in
    both_cut d.2.1.1
    (operator_clears rest_of_shift any_tokens refl refl operator.0 d.0.1.1 d.2.0 d.2.2.0 ys
    (apart operator.0.class (SymShiftLeft ∷ []) template_ends refl operator.2.0) operator.2.1 operand
    (λ zs. unary_is_shift d.0.1.1 (operand.tokens ++ zs) zs (moved (symbol unary_expression) d.0.1.1
    d.2.2.0 ys operand.tokens operand.whole second.0 zs))) (λ p zs h. tt)
shift_expression_clears v xs ys (inr (inr d)) = clear rest_of_shift
    (two SymShiftRight shift_right (symbol unary_expression)) refl v xs ys d

-- a comparison: its first operand is before the operator and the second one
relational_expression_clears : Clears rest_of_list (Means checking Cleared (written relational_expression))
relational_expression_clears v xs ys (inl d) = wider_cut refl d.1
relational_expression_clears v xs ys (inr d) =
    let operator = operator_token d.0.1.0 d.2.0 d.2.2.0 d.2.2.1 in
    let second = d.2.2.2 in
    let operand = second.1 in
    let rest =
    operator_clears rest_of_list rest_of_shift refl refl operator.0 d.0.1.1 d.2.0 d.2.2.0 ys
    operator.1 operator.2 operand
    (λ zs. moved (symbol shift_expression) d.0.1.1 d.2.2.0 ys operand.tokens operand.whole second.0 zs) in
    let compared = relational_operator then symbol shift_expression in
    both_cut d.2.1.1 rest
    (λ p zs h. compared_closes p d.0.1 (rest.tokens ++ zs) zs
    (moved compared d.0.1 d.2.0 ys rest.tokens rest.whole (derived compared d.0.1 d.2.0 ys d.2.2) zs) h)

-- ---- all symbols
rules : (n : Symbol) → Clears (need n) (Means checking Cleared (written n))
rules template_list = template_list_clears
rules shift_expression = shift_expression_clears
rules relational_expression = relational_expression_clears
rules n = clear (need n) (written n) refl

-- the tokens that a symbol derives are clear before what meets its need
all_clear : (n : Symbol) (v : Value n) (xs ys : List Token) → D n v xs ys → (p : Place)
    → Meets (need n) p ys → AllClear p xs ys
all_clear n v xs ys d p m =
    let a = (by_derivation Cleared (λ n v xs ys d m. (d, rules n v xs ys m)) n v xs ys d).1 in
    subst (λ (z : List Token). AllClear p z ys) (sym a.whole) (a.clear p ys m)

-- the tokens of a unit, and of a list of expressions inside a template list
pub unit_clear : (u : TranslationUnit) (ts : List Token) → Derives checking written unit u ts → AllClear outside ts []
unit_clear u ts d = all_clear unit u ts [] d outside tt

pub list_clear : (v : List ExpressionNode) (ts : List Token)
    → Derives checking written expressions v ts → AllClear inside ts []
list_clear v ts d = all_clear expressions v ts [] d inside refl
