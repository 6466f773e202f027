-- The printed texts of statements, each as its pieces one after another.
use Rattle.std.proofs.Common.{ℕ, ◌≡◌, refl, sym, ◌∙◌, ap, IsTrue, List, ◌++◌, map, codes, Option}
use Rattle.std.proofs.lemmas.List.{append_assoc}
use Rattle.wgsl_model.specs.Trees.Expressions.{ExpressionNode}
use Rattle.wgsl_model.specs.Trees.Attributes.{Attributes}
use Rattle.wgsl_model.specs.Trees.Attributed.{Attributed, with_attributes}
use Rattle.wgsl_model.specs.Trees.Statements.{Statement, statement, void, CompoundStatement, compound_statement, IfStatement, if_else, IfClause, if_clause, ElseIfClause, else_if_clause, ElseClause, else_clause, SwitchStatement, switch, SwitchClause, switch_clause, LoopStatement, repeat, ContinuingStatement, continuing, ForStatement, repeat_for, StatementNodes, ElseIfClauses, MaybeElseClause, SwitchClauses, MaybeContinuing, MaybeStatement, BreakIfStatement, CaseSelector}
use Rattle.wgsl_model.specs.Printed.Joining.{joined}
use Rattle.wgsl_model.specs.Printed.Indentation.{indented}
use Rattle.wgsl_model.specs.Printed.Expressions.{print_expression_node}
use Rattle.wgsl_model.specs.Printed.Attributes.{print_attribute_line}
use Rattle.wgsl_model.specs.Printed.Declarations.{print_attributed, print_condition, print_break_if, print_selector}
use Rattle.wgsl_model.specs.Printed.Statements.{terminator_of, unended, print_statement, statement_texts, clause_texts, print_compound, print_opened, print_if, print_if_clause, print_else_if_clause, print_else_ifs, print_else_clause, print_else, print_switch, print_switch_clause, print_loop, continuing_line, print_continuing, break_if_line, print_for, unended_part}
use Rattle.wgsl_model.proofs.Filled.{IsFilled, right_filled}
use Rattle.wgsl_writer.specs.LineEnds.{is_one_line}

-- no line break ends a statement
pub end_one_line : (s : Statement) → IsTrue (is_one_line (terminator_of s))
end_one_line (statement attributes void) = refl
end_one_line (statement attributes s) = refl

-- with the `;` that ends it
pub statement_is : (s : Statement) (end : List ℕ) → end ≡ terminator_of s → unended s ++ end ≡ print_statement s
statement_is s end same = ap (λ z. unended s ++ z) same

-- a block, and its closing brace
pub compound_is : (b : CompoundStatement) → print_opened b ++ codes "}" ≡ print_compound b
compound_is (compound_statement attributes ss) = simp append_assoc

-- what is on lines of its own in a block is not empty
pub break_if_filled : (b : Attributed BreakIfStatement) → IsFilled (print_attributed print_break_if b)
break_if_filled b = right_filled (print_attribute_line b.attributes) (print_break_if b.node) tt

-- the same by the parts of a tree
pub opened_is : (b : CompoundStatement) (attributes : Attributes) (ss : StatementNodes)
    → b ≡ compound_statement attributes ss → print_attribute_line attributes ++ codes "{\n"
    ++ indented (joined (codes "\n") (statement_texts ss)) ++ codes "\n" ≡ print_opened b
opened_is b attributes ss same =
    let whole : print_attribute_line attributes ++ codes "{\n" ++ indented (joined (codes "\n") (statement_texts ss))
    ++ codes "\n" ≡ print_opened (compound_statement attributes ss) = simp append_assoc in
    whole ∙ sym (ap (λ b. print_opened b) same)

pub if_is : (s : Attributed IfStatement) (attributes : Attributes) (first : IfClause)
    (others : ElseIfClauses) (last : MaybeElseClause)
    → s ≡ with_attributes attributes (if_else first others last) → print_attribute_line attributes
    ++ print_if_clause first ++ print_else_ifs others ++ print_else last ≡ print_attributed print_if s
if_is s attributes first others last same =
    let whole : print_attribute_line attributes ++ print_if_clause first ++ print_else_ifs others ++ print_else last
    ≡ print_attributed print_if (with_attributes attributes (if_else first others last)) = simp append_assoc in
    whole ∙ sym (ap (λ s. print_attributed print_if s) same)

pub if_clause_is : (c : IfClause) (e : ExpressionNode) (block : CompoundStatement) → c ≡ if_clause e block
    → codes "if " ++ print_expression_node e ++ codes " " ++ print_compound block ≡ print_if_clause c
if_clause_is c e block same =
    let whole : codes "if " ++ print_expression_node e ++ codes " " ++ print_compound block
    ≡ print_if_clause (if_clause e block) = simp append_assoc in
    whole ∙ sym (ap (λ c. print_if_clause c) same)

pub else_if_clause_is : (c : ElseIfClause) (attributes : Attributes) (e : ExpressionNode)
    (block : CompoundStatement) → c ≡ else_if_clause attributes e block
    → print_attribute_line attributes ++ (codes "else if " ++ print_expression_node e ++ codes " ")
    ++ print_compound block ≡ print_else_if_clause c
else_if_clause_is c attributes e block same =
    let whole : print_attribute_line attributes ++ (codes "else if " ++ print_expression_node e ++ codes " ")
    ++ print_compound block ≡ print_else_if_clause (else_if_clause attributes e block) = simp append_assoc in
    whole ∙ sym (ap (λ c. print_else_if_clause c) same)

pub else_clause_is : (c : ElseClause) (attributes : Attributes) (block : CompoundStatement)
    → c ≡ else_clause attributes block
    → (print_attribute_line attributes ++ codes "else ") ++ print_compound block ≡ print_else_clause c
else_clause_is c attributes block same =
    let whole : (print_attribute_line attributes ++ codes "else ") ++ print_compound block
    ≡ print_else_clause (else_clause attributes block) = simp append_assoc in
    whole ∙ sym (ap (λ c. print_else_clause c) same)

-- what is before braces, and lines between them
braced_is : (line word e body text : List ℕ)
    → line ++ (word ++ e ++ codes " ") ++ (body ++ codes "{\n") ++ text ++ codes "\n" ++ codes "}"
    ≡ (line ++ (word ++ e ++ codes " " ++ body ++ (codes "{\n" ++ text ++ codes "\n}")))
braced_is line word e body text = simp append_assoc

pub switch_is : (s : Attributed SwitchStatement) (attributes : Attributes) (e : ExpressionNode)
    (body_attributes : Attributes) (cs : SwitchClauses)
    → s ≡ with_attributes attributes (switch e body_attributes cs)
    → print_attribute_line attributes ++ (codes "switch " ++ print_expression_node e ++ codes " ")
    ++ (print_attribute_line body_attributes ++ codes "{\n") ++ indented (joined (codes "\n")
    (clause_texts cs)) ++ codes "\n" ++ codes "}" ≡ print_attributed print_switch s
switch_is s attributes e body_attributes cs same =
    braced_is (print_attribute_line attributes) (codes "switch ") (print_expression_node e)
    (print_attribute_line body_attributes) (indented (joined (codes "\n") (clause_texts cs)))
    ∙ sym (ap (λ s. print_attributed print_switch s) same)

pub switch_clause_is : (c : SwitchClause) (attributes : Attributes) (selectors : List CaseSelector)
    (block : CompoundStatement) → c ≡ switch_clause attributes selectors block
    → print_attribute_line attributes ++ (codes "case " ++ joined (codes ", ")
    (map print_selector selectors) ++ codes " ") ++ print_compound block ≡ print_switch_clause c
switch_clause_is c attributes selectors block same =
    let whole : print_attribute_line attributes ++ (codes "case "
    ++ joined (codes ", ") (map print_selector selectors) ++ codes " ") ++ print_compound block
    ≡ print_switch_clause (switch_clause attributes selectors block) = simp append_assoc in
    whole ∙ sym (ap (λ c. print_switch_clause c) same)

pub loop_is : (s : Attributed LoopStatement) (attributes : Attributes) (body : CompoundStatement)
    (last : MaybeContinuing) → s ≡ with_attributes attributes (repeat body last)
    → (print_attribute_line attributes ++ codes "loop ") ++ print_opened body
    ++ continuing_line last ++ codes "}" ≡ print_attributed print_loop s
loop_is s attributes body last same =
    let whole : (print_attribute_line attributes ++ codes "loop ") ++ print_opened body
    ++ continuing_line last ++ codes "}"
    ≡ print_attributed print_loop (with_attributes attributes (repeat body last)) = simp append_assoc in
    whole ∙ sym (ap (λ s. print_attributed print_loop s) same)

pub continuing_is : (s : ContinuingStatement) (attributes : Attributes) (body : CompoundStatement)
    (condition : Option (Attributed BreakIfStatement)) → s ≡ continuing attributes body condition
    → (print_attribute_line attributes ++ codes "continuing ") ++ print_opened body
    ++ break_if_line condition ++ codes "}" ≡ print_continuing s
continuing_is s attributes body condition same =
    let whole : (print_attribute_line attributes ++ codes "continuing ") ++ print_opened body ++ break_if_line condition
    ++ codes "}" ≡ print_continuing (continuing attributes body condition) = simp append_assoc in
    whole ∙ sym (ap (λ s. print_continuing s) same)

pub for_is : (s : Attributed ForStatement) (attributes : Attributes) (init : MaybeStatement)
    (condition : Option ExpressionNode) (update : MaybeStatement) (block : CompoundStatement)
    → s ≡ with_attributes attributes (repeat_for init condition update block)
    → print_attribute_line attributes ++ codes "for (" ++ unended_part init
    ++ (codes "; " ++ print_condition condition ++ codes "; ") ++ unended_part update ++ codes ") "
    ++ print_compound block ≡ print_attributed print_for s
for_is s attributes init condition update block same =
    let whole : print_attribute_line attributes ++ codes "for (" ++ unended_part init
    ++ (codes "; " ++ print_condition condition ++ codes "; ") ++ unended_part update ++ codes ") "
    ++ print_compound block ≡ print_attributed print_for
    (with_attributes attributes (repeat_for init condition update block)) = simp append_assoc in
    whole ∙ sym (ap (λ s. print_attributed print_for s) same)
