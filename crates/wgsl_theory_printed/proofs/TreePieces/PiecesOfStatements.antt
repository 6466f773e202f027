-- The pieces of printed declarations of values, statements without others and parts of statements,
-- some levels of indentation deep and before the pieces that follow: they print them and have their
-- tokens.
use Rattle.std.proofs.Common.{ℕ, suc, cond, List, ◌∷◌, Option, Some, None, ◌≡◌, map, Bool, true, false, refl, ◌++◌}
use Rattle.std.specs.Prelude.{codes}
use Rattle.wgsl_model.specs.Tokens.ClassTable.{SymColon, SymEqual, SymMinusMinus, SymPlusPlus, SymSemicolon, KwBreak, KwConst, KwConstAssert, KwDefault, KwIf, KwLet, KwOverride, KwReturn, KwVar}
use Rattle.wgsl_model.specs.Tokens.Kind.{Kind, plain}
use Rattle.wgsl_model.specs.Printed.Operators.{assignment_operator_text}
use Rattle.wgsl_model.specs.Trees.NamedValues.{AddressSpace, AccessMode, address_space_text, access_mode_text}
use Rattle.wgsl_model.specs.Trees.Expressions.{ExpressionNode, TypeExpression}
use Rattle.wgsl_model.specs.Trees.Attributed.{Attributed}
use Rattle.wgsl_model.specs.Trees.Statements.{DeclarationKind, const_kind, override_kind, let_kind, var_kind, Declaration, ConstAssert, BreakIfStatement, CaseSelector, default_selector, expression_selector, AssignmentStatement, IncrementStatement, DecrementStatement, ReturnStatement, FunctionCallStatement}
use Rattle.wgsl_model.specs.Printed.Declarations.{print_access_mode, print_var_template, print_kind, print_typed, print_initializer, unended_declaration, unended_assert, print_condition, print_returned, print_selector, unended_assignment, unended_increment, unended_decrement, unended_return, unended_call}
use Rattle.wgsl_model.specs.Printed.Statements.{break_if_line}
use Rattle.wgsl_theory_reread.specs.CanonicalExpressions.{optional_tokens, word_token, expression_node_tokens, list_tokens, call_tokens}
use Rattle.wgsl_theory_reread.specs.CanonicalAttributes.{after_comma, attributes_tokens}
use Rattle.wgsl_theory_reread.specs.CanonicalStatements.{var_template_tokens, kind_tokens, typed_tokens, initializer_tokens, declaration_tokens, assert_tokens, assignment_operator_class, selector_tokens, break_if_tokens}
use Rattle.wgsl_theory_printed.proofs.Spelling.Pieces.{space, opens, closes}
use Rattle.wgsl_theory_printed.proofs.TreePieces.Printing.{Puts, Prints, none_prints, ◌before◌, word_prints, space_prints, opens_prints, closes_prints, four, line, line_prints, indented_prints}
use Rattle.wgsl_theory_printed.proofs.TreePieces.PiecesOfExpressions.{sign, name, expression_node_pieces, call_pieces, type_pieces, name_prints, comma_prints, expression_node_prints, type_prints, call_prints}
use Rattle.wgsl_theory_printed.proofs.TreePieces.PiecesOfAttributes.{optional_pieces, after_comma_pieces, list_pieces, attributes_pieces, list_prints, attributes_print}
use Rattle.std.specs.List.{flat_map}
use Rattle.wgsl_model.specs.Trees.Attributes.{Attributes}
use Rattle.wgsl_model.specs.Printed.Joining.{joined}
use Rattle.wgsl_model.specs.Printed.Indentation.{indented}
use Rattle.wgsl_model.specs.Printed.Attributes.{print_attribute_line}
use Rattle.wgsl_model.proofs.Filled.{left_filled, right_filled, IsFilled}

-- ---- declarations of values

-- the template of a `var`
abbrev pub var_template_pieces : AddressSpace × Option AccessMode → Puts
var_template_pieces p rest = opens ∷ name (address_space_text p.0) (optional_pieces
    (after_comma_pieces (λ (m : AccessMode). name (access_mode_text m))) p.1 (closes ∷ rest))

-- the keyword of a kind of value, and the template of a `var`
abbrev pub kind_pieces : DeclarationKind → Puts
kind_pieces const_kind rest = sign (codes "const") KwConst rest
kind_pieces override_kind rest = sign (codes "override") KwOverride rest
kind_pieces let_kind rest = sign (codes "let") KwLet rest
kind_pieces (var_kind space_of) rest = sign (codes "var") KwVar (optional_pieces var_template_pieces space_of rest)

-- a type after a colon
abbrev pub typed_pieces : TypeExpression → Puts
typed_pieces t rest = sign (codes ":") SymColon (space ∷ type_pieces t rest)

-- a value after an equals sign
abbrev pub initializer_pieces : ExpressionNode → Puts
initializer_pieces e rest = space ∷ sign (codes "=") SymEqual (space ∷ expression_node_pieces e rest)

-- the declaration of a value, without its `;`
abbrev pub declaration_pieces : Declaration → Puts
declaration_pieces d rest = kind_pieces d.kind (space ∷ name d.ident
    (optional_pieces typed_pieces d.ty (optional_pieces initializer_pieces d.initializer rest)))

-- ---- statements

-- a returned value
abbrev pub returned_pieces : ExpressionNode → Puts
returned_pieces e rest = space ∷ expression_node_pieces e rest

-- `const_assert` and its expression, without its `;`
abbrev pub assert_pieces : ConstAssert → Puts
assert_pieces c rest = sign (codes "const_assert") KwConstAssert (space ∷ expression_node_pieces c.expression rest)

-- what a clause selects
abbrev pub selector_pieces : CaseSelector → Puts
selector_pieces default_selector rest = sign (codes "default") KwDefault rest
selector_pieces (expression_selector e) rest = expression_node_pieces e rest

-- attributes, and `break if` with its condition, on lines four spaces in
abbrev pub break_if_pieces : ℕ → Attributed BreakIfStatement → Puts
break_if_pieces n b rest =
    four (attributes_pieces (line (suc n)) b.attributes (sign (codes "break") KwBreak (space ∷ sign (codes "if") KwIf
    (space ∷ expression_node_pieces b.node.expression (sign (codes ";") SymSemicolon (line n rest))))))

-- each without its `;`
abbrev pub assignment_pieces : AssignmentStatement → Puts
assignment_pieces a rest = expression_node_pieces a.lhs
    (space ∷ sign (assignment_operator_text a.operator) (assignment_operator_class a.operator)
    (space ∷ expression_node_pieces a.rhs rest))

abbrev pub increment_pieces : IncrementStatement → Puts
increment_pieces i rest = expression_node_pieces i.expression (sign (codes "++") SymPlusPlus rest)

abbrev pub decrement_pieces : DecrementStatement → Puts
decrement_pieces d rest = expression_node_pieces d.expression (sign (codes "--") SymMinusMinus rest)

abbrev pub return_pieces : ReturnStatement → Puts
return_pieces r rest = sign (codes "return") KwReturn (optional_pieces returned_pieces r.expression rest)

abbrev pub call_statement_pieces : FunctionCallStatement → Puts
call_statement_pieces c rest = call_pieces c.call rest

-- ---- declarations of values print

mode_prints : {n : ℕ} (o : Option AccessMode)
    → Prints n (print_access_mode o)
    (optional_pieces (after_comma_pieces (λ (m : AccessMode). name (access_mode_text m))) o)
    (optional_tokens (after_comma (λ (m : AccessMode). word_token (access_mode_text m))) o)
mode_prints None = none_prints
mode_prints (Some m) = comma_prints before name_prints (access_mode_text m)

var_template_prints : {n : ℕ} (o : Option (AddressSpace × Option AccessMode))
    → Prints n (print_var_template o) (optional_pieces var_template_pieces o) (optional_tokens var_template_tokens o)
var_template_prints None = none_prints
var_template_prints (Some p) = opens_prints before name_prints
    (address_space_text p.0) before mode_prints p.1 before closes_prints

kind_prints : {n : ℕ} (k : DeclarationKind) → Prints n (print_kind k) (kind_pieces k) (kind_tokens k)
kind_prints const_kind = word_prints
kind_prints override_kind = word_prints
kind_prints let_kind = word_prints
kind_prints (var_kind t) = word_prints before var_template_prints t

typed_prints : {n : ℕ} (o : Option TypeExpression)
    → Prints n (print_typed o) (optional_pieces typed_pieces o) (optional_tokens typed_tokens o)
typed_prints None = none_prints
typed_prints (Some t) = (word_prints before space_prints) before type_prints t

initializer_prints : {n : ℕ} (o : Option ExpressionNode) → Prints n (print_initializer o)
    (optional_pieces initializer_pieces o) (optional_tokens initializer_tokens o)
initializer_prints None = none_prints
initializer_prints (Some e) = (space_prints before word_prints before space_prints) before expression_node_prints e

pub declaration_prints : {n : ℕ} (d : Declaration)
    → Prints n (unended_declaration d) (declaration_pieces d) (declaration_tokens d)
declaration_prints d = kind_prints d.kind before space_prints before name_prints d.ident before
    typed_prints d.ty before initializer_prints d.initializer

pub assert_prints : {n : ℕ} (c : ConstAssert) → Prints n (unended_assert c) (assert_pieces c) (assert_tokens c)
assert_prints c = (word_prints before space_prints) before expression_node_prints c.expression

-- ---- what holds no statements

returned_prints : {n : ℕ} (o : Option ExpressionNode) → Prints n (print_returned o)
    (optional_pieces returned_pieces o) (optional_tokens expression_node_tokens o)
returned_prints None = none_prints
returned_prints (Some e) = space_prints before expression_node_prints e

pub condition_prints : {n : ℕ} (o : Option ExpressionNode) → Prints n (print_condition o)
    (optional_pieces expression_node_pieces o) (optional_tokens expression_node_tokens o)
condition_prints None = none_prints
condition_prints (Some e) = expression_node_prints e

selector_prints : {n : ℕ} (s : CaseSelector) → Prints n (print_selector s) (selector_pieces s) (selector_tokens s)
selector_prints default_selector = word_prints
selector_prints (expression_selector e) = expression_node_prints e

pub line_of_attributes : {n : ℕ} (a : Attributes)
    → Prints n (print_attribute_line a) (attributes_pieces (line n) a) (attributes_tokens a)
line_of_attributes {n} a = attributes_print (line_prints n) a

pub break_if_prints : {n : ℕ} (o : Option (Attributed BreakIfStatement))
    → Prints n (break_if_line o) (optional_pieces (break_if_pieces n) o) (optional_tokens break_if_tokens o)
break_if_prints None = none_prints
break_if_prints {n} (Some b) = indented_prints (right_filled (print_attribute_line b.attributes) _ tt)
    (line_of_attributes b.attributes before ((word_prints before space_prints before word_prints before
    space_prints) before expression_node_prints b.node.expression before word_prints)) before line_prints n

pub selectors_prints : {n : ℕ} (ss : List CaseSelector)
    → Prints n (joined (codes ", ") (map print_selector ss)) (list_pieces selector_pieces ss)
    (list_tokens selector_tokens ss)
selectors_prints ss = list_prints selector_prints ss

pub assignment_prints : {n : ℕ} (a : AssignmentStatement)
    → Prints n (unended_assignment a) (assignment_pieces a)
    (λ rest. expression_node_tokens a.lhs
    (plain (assignment_operator_class a.operator) ∷ expression_node_tokens a.rhs rest))
assignment_prints a = expression_node_prints a.lhs before space_prints before word_prints before
    space_prints before expression_node_prints a.rhs

pub increment_prints : {n : ℕ} (i : IncrementStatement)
    → Prints n (unended_increment i) (increment_pieces i)
    (λ rest. expression_node_tokens i.expression (plain SymPlusPlus ∷ rest))
increment_prints i = expression_node_prints i.expression before word_prints

pub decrement_prints : {n : ℕ} (d : DecrementStatement)
    → Prints n (unended_decrement d) (decrement_pieces d)
    (λ rest. expression_node_tokens d.expression (plain SymMinusMinus ∷ rest))
decrement_prints d = expression_node_prints d.expression before word_prints

pub return_prints : {n : ℕ} (r : ReturnStatement)
    → Prints n (unended_return r) (return_pieces r)
    (λ rest. plain KwReturn ∷ optional_tokens expression_node_tokens r.expression rest)
return_prints r = word_prints before returned_prints r.expression

pub call_statement_prints : {n : ℕ} (c : FunctionCallStatement)
    → Prints n (unended_call c) (call_statement_pieces c) (call_tokens c.call)
call_statement_prints c = call_prints c.call

-- ---- statements one after another

-- one that may be left out, on a line of its own before others
pub one_further : {n : ℕ} (b : Bool) (texts : List (List ℕ)) {text : List ℕ} {p q : Puts}
    {v w : List Kind → List Kind} → Prints n text p v
    → Prints n (flat_map (λ x. codes "\n" ++ x) texts) q w
    → Prints n (flat_map (λ x. codes "\n" ++ x) (cond b texts (text ∷ texts)))
    (λ rest. cond b (q rest) (line n (p (q rest)))) (λ rest. cond b (w rest) (v (w rest)))
one_further true texts one more = more
one_further {n} false texts one more = (line_prints n before one) before more

-- the first one, four spaces in, or the first of the others
pub one_first : {n : ℕ} (b : Bool) (texts : List (List ℕ)) {text : List ℕ} {p q r : Puts}
    {v w : List Kind → List Kind} → (b ≡ false → IsFilled text) → Prints (suc n) text p v
    → Prints (suc n) (flat_map (λ x. codes "\n" ++ x) texts) q w
    → Prints n (indented (joined (codes "\n") texts)) r w
    → Prints n (indented (joined (codes "\n") (cond b texts (text ∷ texts))))
    (λ rest. cond b (r rest) (four (p (q rest)))) (λ rest. cond b (w rest) (v (w rest)))
one_first true texts filled one more first = first
one_first {n} false texts {text = text} filled one more first =
    indented_prints (left_filled text _ (filled refl)) (one before more)
