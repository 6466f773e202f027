-- What is known of a change for statements to print as before, and to be the same after it twice.
use Rattle.std.proofs.Common.{ℕ, ◌≡◌, refl, ◌∙◌, ap, sym, Bool, true, false, List, ◌∷◌, map, if◌then◌else◌, Option}
use Rattle.grammar.specs.Tokens.{Span}
use Rattle.wgsl_model.specs.Trees.Attributed.{Attributed}
use Rattle.wgsl_model.specs.Trees.Attributes.{Attributes}
use Rattle.wgsl_model.specs.Trees.Expressions.{ExpressionNode}
use Rattle.wgsl_model.specs.Trees.Statements as tree
use Rattle.wgsl_model.specs.Trees.Statements.{Change, changed_node, changed_statement, changed_statements, changed_unattributed}
use Rattle.wgsl_model.specs.Trees.EmptyItems.{is_void_node}
use Rattle.wgsl_model.specs.Printed.Expressions.{print_expression_node}
use Rattle.wgsl_model.specs.Printed.Attributes.{print_attribute_line}
use Rattle.wgsl_model.specs.Printed.Declarations.{print_condition, print_selector}
use Rattle.wgsl_model.specs.Printed.Statements as printed

-- how a statement ends, and if it is empty
abbrev pub ending : tree.Statement → List ℕ × Bool
ending s = (printed.terminator_of s, printed.is_void s)

-- the printed text of each part is the same, and no statement but an empty one is left out
pub record KeepsPrint (c : Change) : Type 0 where
  pub attributes : (attributes : Attributes)
      → print_attribute_line (c.attributes attributes) ≡ print_attribute_line attributes
  pub expression : (e : ExpressionNode) → print_expression_node (c.expression e) ≡ print_expression_node e
  pub condition : (e : Option ExpressionNode) → print_condition (c.condition e) ≡ print_condition e
  pub selectors : (ss : List tree.CaseSelector) → map print_selector (c.selectors ss) ≡ map print_selector ss
  pub break_if : (b : Option (Attributed tree.BreakIfStatement))
      → printed.break_if_line (c.break_if b) ≡ printed.break_if_line b
  pub simple : (s : tree.UnattributedStatement)
      → printed.unended_unattributed (c.simple s) ≡ printed.unended_unattributed s
  pub simple_end : (attributes : Attributes) (s : tree.UnattributedStatement)
      → ending (tree.statement (c.attributes attributes) (c.simple s)) ≡ ending (tree.statement attributes s)
  pub left_out : (s : tree.StatementNode) → c.leaves_out s ≡ true → is_void_node s ≡ true

-- a statement in a list keeps its text, if its end and its text without a list are kept
module _ (c : Change) where
  pub one_text : (s : tree.Statement) (span : Span) (rest : tree.StatementNodes) (texts : List (List ℕ))
      (b : Bool) → (b ≡ true → printed.is_void s ≡ true) → ending (changed_statement c s) ≡ ending s
      → printed.print_statement (changed_statement c s) ≡ printed.print_statement s
      → printed.statement_texts rest ≡ texts
      → printed.statement_texts (if b then rest
      else tree.statement_before (tree.statement_node (changed_statement c s) span) rest)
      ≡ (if printed.is_void s then texts else printed.print_statement s ∷ texts)
  one_text s span rest texts true out end same others = others
      ∙ sym (ap (λ b. if b then texts else printed.print_statement s ∷ texts) (out refl))
  one_text s span rest texts false out end same others = λ i. if (end i).1 then others i else same i ∷ others i

-- each part changed twice is changed once, and a statement that is kept stays kept
pub record PartsTwice (c : Change) : Type 0 where
  pub attributes : (attributes : Attributes) → c.attributes (c.attributes attributes) ≡ c.attributes attributes
  pub expression : (e : ExpressionNode) → c.expression (c.expression e) ≡ c.expression e
  pub condition : (e : Option ExpressionNode) → c.condition (c.condition e) ≡ c.condition e
  pub selectors : (ss : List tree.CaseSelector) → c.selectors (c.selectors ss) ≡ c.selectors ss
  pub break_if : (b : Option (Attributed tree.BreakIfStatement)) → c.break_if (c.break_if b) ≡ c.break_if b
  pub simple : (s : tree.UnattributedStatement) → changed_unattributed c s ≡ c.simple s
      → changed_unattributed c (c.simple s) ≡ c.simple s
  pub span : (s : Span) → c.span (c.span s) ≡ c.span s
  pub left_out : (s : tree.StatementNode) → c.leaves_out (changed_node c s) ≡ c.leaves_out s

-- a list of statements changed twice, if that is so of the first one and of the others
module _ (c : Change) where
  pub one_twice : (s : tree.StatementNode) (rest : tree.StatementNodes) (b : Bool) → c.leaves_out s ≡ b
      → changed_node c s ≡ s → changed_statements c rest ≡ rest
      → changed_statements c (if b then rest else tree.statement_before s rest)
      ≡ (if b then rest else tree.statement_before s rest)
  one_twice s rest true e same others = others
  one_twice s rest false e same others = λ i. if e i then others i else tree.statement_before (same i) (others i)
