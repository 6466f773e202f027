-- Expressions and types are told apart. What is leftmost in a chain is no chain, and its links
-- follow.
use Rattle.std.proofs.Common.{ℕ, ℤ, ◌≡◌, ◌==◌, ◌<◌, ◌^◌, refl, sym, ap, ◌∙◌, Bool, true, false, if◌then◌else◌, List, [], ◌∷◌, ◌++◌, append_assoc, get_or, arith, ne_eqb}
use Rattle.std.proofs.lemmas.Bool.{eqb-false}
use Rattle.std.proofs.lemmas.Fmt.{decimal_injective, signed_decimal_injective}
use Rattle.std.specs.Int.{w64}
use Rattle.std.specs.Int.RustNames.{FitsSigned}
use Rattle.std.specs.Fmt.{decimal, signed_decimal}
use Rattle.grammar.specs.Tokens.{Span}
use Rattle.wgsl_model.specs.Printed.Expressions.{is_abstract_int, expression_in, fuses}
use Rattle.wgsl_model.specs.Printed.Operators.{binary_operator_text}
use Rattle.wgsl_model.specs.Trees.Operators.{UnaryOperator, BinaryOperator}
use Rattle.wgsl_model.specs.Trees.Expressions.{LiteralExpression, boolean, abstract_int, i32, u32, abstract_float, f32, f16, ExpressionNode, expression_node, Expression, literal, parenthesized, named_component, indexing, unary, binary, function_call, type_or_identifier, FunctionCall, call, TypeExpression, type_expression, no_template, template, ExpressionNodes, no_expressions, expression_before}
use Rattle.wgsl_model_packed.specs.Rules.{chain_rule, component_rule, component_of_int_rule, index_rule, binary_rule, nothing_rule, unary_rule, unary_apart_rule}
use Rattle.wgsl_model_packed.specs.Printing.{packed_text, packed_span}
use Rattle.wgsl_model_packed.specs.Expressions.{packed_literal, component_rule_of, node_rule_before, packed_expression, leftmost, packed_expression_node, packed_expressions, packed_further, packed_call, packed_type}
use Rattle.wgsl_theory_packed.specs.Fits.{Every, SpanFits, LiteralFits, ExpressionFits, NodeFits, CallFits, TypeFits, NodesFit}
use Rattle.wgsl_theory_packed.proofs.Told.Forms.{Tells, IsTold, AreTold, tells_of, so, ◌▸◌, same, after_rule, apart, turned, of_one, of_two, of_three, told_text, told_span}
use Rattle.wgsl_theory_packed.proofs.Told.Words.{told_unary_operator, told_binary_operator}

-- ---- literals
told_signed : (m n : ℤ) → FitsSigned w64 m → FitsSigned w64 n
    → Tells (packed_text (signed_decimal m)) (packed_text (signed_decimal n)) (m ≡ n)
told_signed m n h k =
    so (signed_decimal_injective m n h.sfits k.sfits) (told_text (signed_decimal m) (signed_decimal n))

told_natural : (m n : ℕ) → m < 2 ^ 64 → n < 2 ^ 64
    → Tells (packed_text (decimal m)) (packed_text (decimal n)) (m ≡ n)
told_natural m n h k = so (decimal_injective m n h k) (told_text (decimal m) (decimal n))

told_literal : AreTold LiteralFits packed_literal
told_literal (boolean true) h (boolean true) k = same
told_literal (boolean false) h (boolean false) k = same
told_literal (abstract_int m) h (abstract_int n) k = of_one abstract_int (after_rule (told_signed m n h k))
told_literal (i32 m) h (i32 n) k = of_one i32 (after_rule (told_signed m n h k))
told_literal (u32 m) h (u32 n) k = of_one u32 (after_rule (told_natural m n h k))
told_literal (abstract_float a) h (abstract_float b) k = of_one abstract_float (after_rule (told_text a b))
told_literal (f32 a) h (f32 b) k = of_one f32 (after_rule (told_text a b))
told_literal (f16 a) h (f16 b) k = of_one f16 (after_rule (told_text a b))
told_literal l h (boolean true) k = apart refl
told_literal l h (boolean false) k = apart refl
told_literal l h m k = apart refl

-- ---- how expressions begin
-- the sort of an expression, and what the first byte says of it
abbrev sort : Expression → ℕ
sort (literal l) = 0
sort (parenthesized e) = 1
sort (unary operator operand) = 2
sort (function_call c) = 3
sort (type_or_identifier t) = 4
sort e = 5

abbrev sort_of_rule : ℕ → ℕ
sort_of_rule n = get_or (0 ∷ 0 ∷ 0 ∷ 0 ∷ 0 ∷ 0 ∷ 0 ∷ 0 ∷ 1 ∷ 2 ∷ 2 ∷ 3 ∷ 4 ∷ 4 ∷ 5 ∷ []) n 6

abbrev begun : List ℕ → ℕ
begun form = sort_of_rule (get_or form 0 14)

literal_begins : (l : LiteralExpression) (r : List ℕ) → begun (packed_literal l ++ r) ≡ 0
literal_begins (boolean true) r = refl
literal_begins (boolean false) r = refl
literal_begins l r = refl

unary_begins : (b : Bool) → sort_of_rule (if b then unary_apart_rule else unary_rule) ≡ 2
unary_begins true = refl
unary_begins false = refl

begins : (e : Expression) (r : List ℕ) → begun (packed_expression e ++ r) ≡ sort e
begins (literal l) r = literal_begins l r
begins (unary operator operand) r = unary_begins (fuses operator (expression_in operand))
begins (function_call (call ty arguments)) r = refl
begins (type_or_identifier (type_expression name no_template)) r = refl
begins (type_or_identifier (type_expression name (template arguments))) r = refl
begins e r = refl

-- a form that begins otherwise
other : {f : List ℕ} {E : Type 0} (n : ℕ) → ((r : List ℕ) → begun (f ++ r) ≡ n) → (e : Expression)
    → (n == sort e) ≡ false → Tells f (packed_expression e) E
other n begin e h = record {
  told = λ r s small d. absurd (eqb-false n (sort e) h (sym (begin r) ∙ ap begun d ∙ begins e s));
}

-- ---- chains
-- what follows what is leftmost: a component, an index, or an operator and its right operand, each
-- with the span of what is before it
data Link : Type 0 where
  component : Span → List ℕ → Link
  index : Span → ExpressionNode → Link
  operation : Span → BinaryOperator → ExpressionNode → Link

abbrev LinkFits : Link → Type 0
LinkFits (component span name) = SpanFits span
LinkFits (index span i) = SpanFits span × NodeFits i
LinkFits (operation span operator right) = SpanFits span × NodeFits right

-- an expression with a link after it, and with some
abbrev with_link : Expression → Link → Expression
with_link e (component span name) = named_component (expression_node e span) name
with_link e (index span i) = indexing (expression_node e span) i
with_link e (operation span operator right) = binary operator (expression_node e span) right

abbrev linked : Expression → List Link → Expression
linked e [] = e
linked e (l ∷ ls) = linked (with_link e l) ls

-- the form of a link after an expression, and of some with their end
abbrev packed_link : Expression → Link → List ℕ
packed_link e (component span name) = component_rule_of e ∷ (packed_span span ++ packed_text name)
packed_link e (index span i) = index_rule ∷ (packed_span span ++ packed_expression_node i)
packed_link e (operation span operator right) = binary_rule
    ∷ (packed_span span ++ (packed_text (binary_operator_text operator) ++ packed_expression_node right))

abbrev packed_links : Expression → List Link → List ℕ
packed_links e [] = nothing_rule ∷ []
packed_links e (l ∷ ls) = packed_link e l ++ packed_links (with_link e l) ls

after_link : (e : Expression) (l : Link) (form : List ℕ)
    → leftmost e ++ (packed_link e l ++ form) ≡ leftmost (with_link e l) ++ form
after_link e (component span name) form = simp append_assoc
after_link e (index span i) form = simp append_assoc
after_link e (operation span operator right) form = simp append_assoc

-- links are told apart, whatever they are after
abbrev IsLinkTold : Link → Type 0
IsLinkTold l = (e d : Expression) (m : Link) → LinkFits m → Tells (packed_link e l) (packed_link d m) (l ≡ m)

abbrev AreLinksTold : List Link → Type 0
AreLinksTold ls = (e d : Expression) (ms : List Link) → Every LinkFits ms
    → Tells (packed_links e ls) (packed_links d ms) (ls ≡ ms)

-- the rule of a component is before those of other links
component_apart : (e : Expression) (n : ℕ) → component_of_int_rule < n → (component_rule_of e == n) ≡ false
component_apart e n h = go (is_abstract_int e) where
  go : (b : Bool) → ((if b then component_of_int_rule else component_rule) == n) ≡ false
  go true = ne_eqb component_of_int_rule n (λ e. omega (arith, h, e))
  go false = ne_eqb component_rule n (λ e. omega (arith, h, e))

component_told : (span : Span) (name : List ℕ) → SpanFits span → IsLinkTold (component span name)
component_told span name h e d (component s n) k =
    of_two component (after_rule (told_span span h s k ▸ told_text name n))
component_told span name h e d l k = apart (component_apart e _ (omega arith))

index_told : (span : Span) (i : ExpressionNode) → SpanFits span → IsTold NodeFits packed_expression_node i
    → IsLinkTold (index span i)
index_told span i h t e d (component s n) k = turned (apart (component_apart d _ (omega arith)))
index_told span i h t e d (index s j) k = of_two index (after_rule (told_span span h s k.0 ▸ t j k.1))
index_told span i h t e d l k = apart refl

operation_told : (span : Span) (operator : BinaryOperator) (right : ExpressionNode) → SpanFits span
    → IsTold NodeFits packed_expression_node right → IsLinkTold (operation span operator right)
operation_told span operator right h t e d (component s n) k = turned (apart (component_apart d _ (omega arith)))
operation_told span operator right h t e d (operation s o r) k = of_three operation (after_rule
    (told_span span h s k.0 ▸ told_binary_operator operator o ▸ t r k.1))
operation_told span operator right h t e d l k = apart refl

no_links_told : AreLinksTold []
no_links_told e d [] k = same
no_links_told e d (component span name ∷ ls) k = turned (apart (component_apart d _ (omega arith)))
no_links_told e d (l ∷ ls) k = apart refl

links_told : (l : Link) (ls : List Link) → LinkFits l → Every LinkFits ls → IsLinkTold l → AreLinksTold ls
    → AreLinksTold (l ∷ ls)
links_told l ls h hs one more e d [] k = turned (no_links_told d e (l ∷ ls) (h, hs))
links_told l ls h hs one more e d (m ∷ ms) k = of_two ◌∷◌ (one e d m k.0 ▸ more (with_link e l) (with_link d m) ms k.1)

-- what is leftmost in an expression, and links after it, are told from others
abbrev IsLeftTold : Expression → Type 0
IsLeftTold e = (ls : List Link) → Every LinkFits ls → AreLinksTold ls → (d : Expression) → ExpressionFits d
    → (ms : List Link) → Every LinkFits ms
    → Tells (leftmost e ++ packed_links e ls) (leftmost d ++ packed_links d ms) (linked e ls ≡ linked d ms)

-- where there is no link in an expression, and it is told from others
left_told : (e : Expression)
    → ((d : Expression) → ExpressionFits d → Tells (leftmost e) (packed_expression d) (e ≡ d)) → IsLeftTold e
left_told e t ls h more (named_component (expression_node d s) name) k ms f =
    let l = component s name in tells_of refl (after_link d l (packed_links (with_link d l) ms))
    (left_told e t ls h more d k.1 (l ∷ ms) (k.0, f))
left_told e t ls h more (indexing (expression_node d s) i) k ms f =
    let l = index s i in tells_of refl (after_link d l (packed_links (with_link d l) ms))
    (left_told e t ls h more d k.0.1 (l ∷ ms) ((k.0.0, k.1), f))
left_told e t ls h more (binary operator (expression_node d s) right) k ms f =
    let l = operation s operator right in tells_of refl (after_link d l (packed_links (with_link d l) ms))
    (left_told e t ls h more d k.0.1 (l ∷ ms) ((k.0.0, k.1), f))
left_told e t ls h more d k ms f = of_two linked (t d k ▸ more e d ms f)

record IsExpressionTold (e : Expression) : Type 0 where
  whole : IsTold ExpressionFits packed_expression e
  left : IsLeftTold e

no_chain : (e : Expression) → leftmost e ≡ packed_expression e → IsTold ExpressionFits packed_expression e
    → IsExpressionTold e
no_chain e is t = record { whole = t; left = left_told e (λ d k. tells_of (sym is) refl (t d k)) }

-- a chain is what is leftmost, the links and their end
chain_is : (e : Expression) (l : Link)
    → chain_rule ∷ (leftmost (with_link e l) ++ (nothing_rule ∷ [])) ≡ packed_expression (with_link e l)
chain_is e (component span name) = simp append_assoc
chain_is e (index span i) = simp append_assoc
chain_is e (operation span operator right) = simp append_assoc

chain : (e : Expression) (l : Link) → LinkFits l → IsLinkTold l → IsLeftTold e → IsExpressionTold (with_link e l)
chain e l h one t = record { whole = go; left = left } where
  left : IsLeftTold (with_link e l)
  left ls f more d k ms g = tells_of (after_link e l (packed_links (with_link e l) ls)) refl
      (t (l ∷ ls) (h, f) (links_told l ls h f one more) d k ms g)

  both : (d : Expression) (m : Link) → ExpressionFits (with_link d m)
      → Tells (packed_expression (with_link e l)) (packed_expression (with_link d m)) (with_link e l ≡ with_link d m)
  both d m k = tells_of (chain_is e l) (chain_is d m)
      (after_rule (left [] tt no_links_told (with_link d m) k [] tt))

  go : IsTold ExpressionFits packed_expression (with_link e l)
  go (named_component (expression_node d s) name) k = both d (component s name) k
  go (indexing (expression_node d s) i) k = both d (index s i) k
  go (binary operator (expression_node d s) right) k = both d (operation s operator right) k
  go d k = tells_of (chain_is e l) refl (other 5 (λ r. refl) d refl)

-- ---- expressions without links
told_literals : (l : LiteralExpression) → LiteralFits l → IsTold ExpressionFits packed_expression (literal l)
told_literals l h (literal m) k = of_one literal (told_literal l h m k)
told_literals l h e k = other 0 (literal_begins l) e refl

told_parenthesized : (e : ExpressionNode) → IsTold NodeFits packed_expression_node e
    → IsTold ExpressionFits packed_expression (parenthesized e)
told_parenthesized e t (parenthesized d) k = of_one parenthesized (after_rule (t d k))
told_parenthesized e t d k = other 1 (λ r. refl) d refl

told_unary : (operator : UnaryOperator) (e : ExpressionNode) → IsTold NodeFits packed_expression_node e
    → IsTold ExpressionFits packed_expression (unary operator e)
told_unary operator e t (unary o d) k = of_two unary (after_rule (told_unary_operator operator o ▸ t d k))
told_unary operator e t d k = other 2 (λ r. unary_begins (fuses operator (expression_in e))) d refl

told_function_call : (c : FunctionCall) → IsTold CallFits packed_call c
    → IsTold ExpressionFits packed_expression (function_call c)
told_function_call c t (function_call d) k = of_one function_call (t d k)
told_function_call c t d k = other 3 (begins (function_call c)) d refl

told_identifier : (i : TypeExpression) → IsTold TypeFits packed_type i
    → IsTold ExpressionFits packed_expression (type_or_identifier i)
told_identifier i t (type_or_identifier j) k = of_one type_or_identifier (t j k)
told_identifier i t d k = other 4 (begins (type_or_identifier i)) d refl

-- no list of expressions is that without any
some_nodes : (es : ExpressionNodes) → (nothing_rule == node_rule_before es) ≡ false
some_nodes no_expressions = refl
some_nodes (expression_before e es) = refl

mutual
  told_both : (e : Expression) → ExpressionFits e → IsExpressionTold e
  told_both (literal l) h = no_chain (literal l) refl (told_literals l h)
  told_both (parenthesized e) h = no_chain (parenthesized e) refl (told_parenthesized e (told_node e h))
  told_both (named_component (expression_node e span) name) h =
      chain e (component span name) h.0 (component_told span name h.0) (told_both e h.1).left
  told_both (indexing (expression_node e span) i) h =
      chain e (index span i) (h.0.0, h.1) (index_told span i h.0.0 (told_node i h.1)) (told_both e h.0.1).left
  told_both (unary operator e) h = no_chain (unary operator e) refl (told_unary operator e (told_node e h))
  told_both (binary operator (expression_node e span) right) h =
      chain e (operation span operator right) (h.0.0, h.1)
      (operation_told span operator right h.0.0 (told_node right h.1)) (told_both e h.0.1).left
  told_both (function_call c) h = no_chain (function_call c) refl (told_function_call c (told_call c h))
  told_both (type_or_identifier i) h = no_chain (type_or_identifier i) refl (told_identifier i (told_type i h))

  pub told_node : AreTold NodeFits packed_expression_node
  told_node (expression_node e x) h (expression_node d y) k = so (λ p i. expression_node (p.1 i) (p.0 i))
      (told_span x h.0 y k.0 ▸ (told_both e h.1).whole d k.1)

  told_nodes : AreTold NodesFit packed_expressions
  told_nodes no_expressions h no_expressions k = same
  told_nodes no_expressions h (expression_before d ds) k = apart (some_nodes ds)
  told_nodes (expression_before e es) h no_expressions k = turned (apart (some_nodes es))
  told_nodes (expression_before e es) h (expression_before d ds) k =
      told_further es h.1 e d (told_node e h.0 d k.0) ds k.1

  told_further : (es : ExpressionNodes) → NodesFit es → (e d : ExpressionNode)
      → Tells (packed_expression_node e) (packed_expression_node d) (e ≡ d) → (ds : ExpressionNodes) → NodesFit ds
      → Tells (node_rule_before es ∷ (packed_expression_node e ++ packed_further es))
      (node_rule_before ds ∷ (packed_expression_node d ++ packed_further ds))
      (expression_before e es ≡ expression_before d ds)
  told_further no_expressions h e d t no_expressions k = of_two expression_before (after_rule (t ▸ same))
  told_further no_expressions h e d t (expression_before c cs) k = apart refl
  told_further (expression_before b bs) h e d t no_expressions k = apart refl
  told_further (expression_before b bs) h e d t (expression_before c cs) k = of_two expression_before
      (after_rule (t ▸ told_further bs h.1 b c (told_node b h.0 c k.0) cs k.1))

  pub told_call : AreTold CallFits packed_call
  told_call (call s es) h (call t ds) k = of_two call (after_rule (told_type s h.0 t k.0 ▸ told_nodes es h.1 ds k.1))

  pub told_type : AreTold TypeFits packed_type
  told_type (type_expression a no_template) h (type_expression b no_template) k =
      of_one (λ name. type_expression name no_template) (after_rule (told_text a b))
  told_type (type_expression a (template es)) h (type_expression b (template ds)) k =
      of_two (λ name arguments. type_expression name (template arguments))
      (after_rule (told_text a b ▸ told_nodes es h ds k))
  told_type (type_expression a no_template) h (type_expression b (template ds)) k = apart refl
  told_type (type_expression a (template es)) h (type_expression b no_template) k = apart refl

pub told_expression : AreTold ExpressionFits packed_expression
told_expression e h = (told_both e h).whole
