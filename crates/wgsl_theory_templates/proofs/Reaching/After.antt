-- After the `<` of a comparison and after `<<` no token that begins with `>` is reached, where no
-- template list was found.
use Rattle.std.proofs.Common.{◌≡◌, ℕ, Bool, true, false, ◌&&◌, List, [], ◌∷◌, ◌⊎◌, refl, sym, ap, ◌∙◌, inl, inr}
use Rattle.std.proofs.lemmas.Bool.{false≢true}
use Rattle.grammar.specs.Tokens.{Token, Span, first_tokens, span_between}
use Rattle.grammar.specs.Grammar.{Grammar.empty, Grammar.token, Grammar.sequence, Grammar.choice, Grammar.mapped, Grammar.node, Grammar.checked, Grammar.symbol, Grammar.left_chain, Mode.checking, Chain, Chain.base, Chain.more, Means, Derives, is_among}
use Rattle.grammar.specs.Notation.{◌then◌}
use Rattle.grammar.proofs.Reading.Sets.{and_true, cases}
use Rattle.grammar.proofs.Reading.Depth.{Kept, roll, unroll, least}
use Rattle.wgsl_model.specs.Tokens.ClassTable.{KwDefault}
use Rattle.wgsl_model.specs.Trees.Operators.{BinaryOperator}
use Rattle.wgsl_model.specs.Trees.Expressions.{ExpressionNode}
use Rattle.wgsl_model.specs.Grammar.ExpressionParts.{relational_operator, operation_of}
use Rattle.wgsl_model.specs.Grammar.Symbols.{Symbol, expressions, shift_expression, relational_expression, expression, attribute, compound_statement, case_selector, Value, Rule}
use Rattle.wgsl_model.specs.Grammar.Written.{written}
use Rattle.wgsl_theory_grammar.proofs.Faults.PlainFaults.{one_class}
use Rattle.wgsl_theory_reread.proofs.Again.{D}
use Rattle.wgsl_theory_templates.proofs.Reaching.Reach.{Role, greater, greater_stop, closing, short_circuit, stop, keyword, template_end, role, Place, reach_role, reach, ahead_role, ahead}
use Rattle.wgsl_theory_templates.proofs.Reaching.Moves.{kinds, stretch, all_roles, role_of}
use Rattle.wgsl_theory_templates.proofs.Reaching.Closes.{GoesOn, IsList, closes}

-- ---- comparisons and shifts
-- no list of expressions is before a token that begins with `>` and is reached
abbrev pub NoListAt : Place → List Token → Type 0
NoListAt p xs = reach p 0 0 (kinds xs) ≡ true → (w : List ExpressionNode)
    → Derives checking written expressions w (stretch 0 0 xs) → ⊥

-- from each shift before these tokens to a token that begins with `>` is a list of expressions
abbrev pub ShiftCloses : Place → List Token → Type 0
ShiftCloses p ys = (v : ExpressionNode) (xs : List Token) → D shift_expression v xs ys
    → reach p 0 0 (kinds xs) ≡ true → IsList (stretch 0 0 xs)

-- before what goes on with a list
pub shift_closes : (p : Place) (ys : List Token) → GoesOn p ys → ShiftCloses p ys
shift_closes p ys g v xs d h = closes v xs ys (roll checking written expression v xs ys
    (inl (roll checking written relational_expression v xs ys (inl d)))) p g h

-- before the operator and the second operand of a comparison, which are before what goes on with
-- a list
pub compared_closes : (p : Place) (w : BinaryOperator × ExpressionNode) (ms ys : List Token)
    → Means checking D (relational_operator then symbol shift_expression) w ms ys → GoesOn p ys
    → ShiftCloses p ms
compared_closes p w ms ys d g v xs e h =
    let whole : ExpressionNode = operation_of (v, w) (span_between xs ys) in
    closes whole xs ys (roll checking written expression whole xs ys
    (inl (roll checking written relational_expression whole xs ys (inr ((v, w), refl, (ms, e, d)))))) p g h

-- after the operator, from its second operand on
pub operand_is_clear : (v : ExpressionNode) (xs ys : List Token) → D shift_expression v xs ys
    → (p : Place) → ShiftCloses p ys → NoListAt p xs → reach p 0 0 (kinds xs) ≡ false
operand_is_clear v xs ys d p g none = by (cases (reach p 0 0 (kinds xs)))
  where
    by : (reach p 0 0 (kinds xs) ≡ true) ⊎ (reach p 0 0 (kinds xs) ≡ false) → reach p 0 0 (kinds xs) ≡ false
    by (inl h) = let w = g v xs d h in absurd (none h w.0 w.1)
    by (inr h) = h

-- ---- what ends an expression or a list
-- a token that begins with `>`, a closing bracket, `&&` or `||`, the end of a template list, and
-- what no expression has
abbrev pub is_ending : Role → Bool
is_ending greater = true
is_ending greater_stop = true
is_ending closing = true
is_ending short_circuit = true
is_ending stop = true
is_ending keyword = true
is_ending template_end = true
is_ending r = false

none_ahead : (r : Role) (next : ℕ → ℕ → ℕ) → is_ending r ≡ true → ahead_role r 0 0 next ≡ 0
none_ahead greater next h = refl
none_ahead greater_stop next h = refl
none_ahead closing next h = refl
none_ahead short_circuit next h = refl
none_ahead stop next h = refl
none_ahead keyword next h = refl
none_ahead template_end next h = refl
none_ahead r next h = absurd cc

-- before a token of one of some classes
pub ended_before : (s : List ℕ) (t : Token) (ys zs : List Token) → all_roles is_ending s ≡ true
    → is_among t.class s ≡ true → ys ≡ t ∷ zs → stretch 0 0 ys ≡ []
ended_before s t ys zs e known w =
    ap (stretch 0 0) w ∙ ap (λ (n : ℕ). first_tokens n (t ∷ zs))
    (none_ahead (role t.class) (λ j f. ahead j f (kinds zs)) (role_of is_ending t.class s e known))

-- the symbols that begin with such a token
abbrev begins_so : Symbol → Bool
begins_so attribute = true
begins_so compound_statement = true
begins_so n = false

-- what a right side derives begins with such a token, where that is said of what is after if
-- it derives nothing
abbrev pub ending : {A : Type 0} → Bool → Rule A → Bool
ending b (empty a) = b
ending b (token s) = all_roles is_ending s
ending b (sequence g h) = ending (ending b h) g
ending b (choice g h) = ending b g && ending b h
ending b (mapped f g) = ending b g
ending b (node f g) = ending b g
ending b (checked f g) = ending b g
ending b (symbol n) = begins_so n
ending b (left_chain f g h) = ending (b && ending b h) g

abbrev Ended : {A : Type 0} → Bool → (A → List Token → List Token → Type 0) → Type 0
Ended {A} b P = (v : A) (xs ys : List Token) → (b ≡ true → stretch 0 0 ys ≡ []) → P v xs ys → stretch 0 0 xs ≡ []

chain_ended : {A B : Type 0} (f : A → B → Span → A) (P : A → List Token → List Token → Type 0)
    (Q : B → List Token → List Token → Type 0) (b c : Bool) → Ended c P → (c ≡ true → Ended b Q)
    → (xs : List Token) (v : A) (ys : List Token) → (c ≡ true → stretch 0 0 ys ≡ [])
    → Chain f P Q xs v ys → stretch 0 0 xs ≡ []
chain_ended f P Q b c H K xs _ _ m (base v ys d) = H v xs ys m d
chain_ended f P Q b c H K xs _ _ m (more v w us ys d i) = chain_ended f P Q b c H K xs v us
    (λ t. K t w us ys (λ _. m t) i) d

-- where the symbols derive so
ended_by : (E : (n : Symbol) → Value n → List Token → List Token → Type 0)
    → ((n : Symbol) → begins_so n ≡ true → Ended false (E n)) → {A : Type 0} (g : Rule A) (b : Bool)
    → ending b g ≡ true → Ended b (Means checking E g)
ended_by E H (empty a) b e v xs ys m d = ap (stretch 0 0) d.1 ∙ m e
ended_by E H (token s) b e v xs ys m d = ended_before s v xs ys e d.0 d.1
ended_by E H (sequence g h) b e v xs ys m (us, d, i) = ended_by E H g (ending b h) e v.0 xs us
    (λ t. ended_by E H h b t v.1 us ys m i) d
ended_by E H (choice g h) b e v xs ys m (inl d) = ended_by E H g b (and_true (ending b g) (ending b h) e).0 v xs ys m d
ended_by E H (choice g h) b e v xs ys m (inr d) = ended_by E H h b (and_true (ending b g) (ending b h) e).1 v xs ys m d
ended_by E H (mapped f g) b e v xs ys m d = ended_by E H g b e d.0 xs ys m d.2
ended_by E H (node f g) b e v xs ys m d = ended_by E H g b e d.0 xs ys m d.2
ended_by E H (checked f g) b e v xs ys m d = ended_by E H g b e v xs ys m d.1
ended_by E H (symbol n) b e v xs ys m d = H n e v xs ys (λ t. absurd cc) d
ended_by E H (left_chain f g h) b e v xs ys m d =
    let c : Bool = b && ending b h in
    chain_ended f (Means checking E g) (Means checking E h) b c (ended_by E H g c e)
    (λ t. ended_by E H h b (and_true b (ending b h) t).1) xs v ys (λ t. m (and_true b (ending b h) t).0) d

symbols_end : (n : Symbol) → begins_so n ≡ true → ending false (written n) ≡ true
symbols_end attribute e = refl
symbols_end compound_statement e = refl
symbols_end n e = absurd cc

-- before what a right side derives that begins so
pub ended_at : {A : Type 0} (g : Rule A) → ending false g ≡ true → (v : A) (xs ys : List Token)
    → Means checking D g v xs ys → stretch 0 0 xs ≡ []
ended_at g e v xs ys d = ended_by D (λ n f w us vs m i. least checking written Begins rules n w us vs i f)
    g false e v xs ys (λ t. absurd cc) d
  where
    Begins : (n : Symbol) → Value n → List Token → List Token → Type 0
    Begins n v xs ys = begins_so n ≡ true → stretch 0 0 xs ≡ []

    rules : (n : Symbol) → Kept (Means checking Begins (written n)) (Begins n)
    rules n v xs ys d e = ended_by Begins (λ m f w us vs t i. i f) (written n) false
        (symbols_end n e) v xs ys (λ t. absurd cc) d

-- ---- the items of a list
-- from a part that a symbol derives to a token that begins with `>` is a list of expressions
abbrev pub BeginsList : Symbol → Type 0
BeginsList n = (v : Value n) (xs ys : List Token) → D n v xs ys → (p : Place) → GoesOn p ys
    → reach p 0 0 (kinds xs) ≡ true → IsList (stretch 0 0 xs)

pub selector_closes : BeginsList case_selector
selector_closes v xs ys d p g h = by (unroll checking written case_selector v xs ys d)
  where
    by : Means checking D (written case_selector) v xs ys → IsList (stretch 0 0 xs)
    by (inl m) =
        let no_more : reach p 0 0 (kinds xs) ≡ false =
        ap (λ (z : List Token). reach p 0 0 (kinds z)) m.2.1 ∙ ap (λ (c : ℕ). reach_role (role c) 0 0
        (λ j f. reach p j f (kinds ys))) (one_class m.0.class KwDefault m.2.0) in
        absurd (false≢true (sym no_more ∙ h))
    by (inr m) = closes m.0 xs ys m.2 p g h
