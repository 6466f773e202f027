-- A tree of a text is the only one of its kind that a text derives with its packed form.
use Rattle.std.proofs.Common.{ℕ, List}
use Rattle.wgsl_model.specs.Trees.Statements.{StatementNode, statement_node}
use Rattle.wgsl_model.specs.Grammar.Symbols.{Symbol, Value, unit, global_directive, global_declaration, statement, expression}
use Rattle.wgsl_model_packed.specs.Expressions.{packed_expression_node}
use Rattle.wgsl_model_packed.specs.Statements.{packed_statement}
use Rattle.wgsl_model_packed.specs.Units.{packed_unit, packed_directive, packed_global_declaration}
use Rattle.wgsl_theory_packed.specs.Fits.{HaveOwnForms, FitInTexts, HaveOwnFormsInTexts, ItemFits, StatementFits, statement_in}
use Rattle.wgsl_theory_packed.proofs.Told.OwnForms.{units_differ, directives_differ, declarations_differ, statements_differ, expression_nodes_differ}
use Rattle.wgsl_theory_packed.proofs.Derived.Rules.{units_fit, directives_fit, declarations_fit, statements_fit, expressions_fit}

in_texts : {Tree : Type 0} {Fit : Tree → Type 0} {packed : Tree → List ℕ} (n : Symbol) (tree_in : Value n → Tree)
    → HaveOwnForms Fit packed → FitInTexts n (λ v. Fit (tree_in v)) → HaveOwnFormsInTexts n tree_in packed
in_texts n tree_in differ fit one other a b small narrow d e short same =
    differ (tree_in a) (tree_in b) (fit one a small d) (fit other b narrow e) short same

pub units_of_texts : HaveOwnFormsInTexts unit (λ u. u) packed_unit
units_of_texts = in_texts unit (λ u. u) units_differ units_fit

pub directives_of_texts : HaveOwnFormsInTexts global_directive (λ d. d) packed_directive
directives_of_texts = in_texts global_directive (λ d. d) directives_differ directives_fit

pub declarations_of_texts : HaveOwnFormsInTexts global_declaration (λ d. d.node) packed_global_declaration
declarations_of_texts = in_texts global_declaration (λ d. d.node) declarations_differ
    (λ source d small derived. (declarations_fit source d small derived).1)

pub expressions_of_texts : HaveOwnFormsInTexts expression (λ e. e) packed_expression_node
expressions_of_texts = in_texts expression (λ e. e) expression_nodes_differ expressions_fit

statement_fits : (s : StatementNode) → ItemFits s → StatementFits (statement_in s)
statement_fits (statement_node s span) h = h.1

pub statements_of_texts : HaveOwnFormsInTexts statement statement_in packed_statement
statements_of_texts = in_texts statement statement_in statements_differ
    (λ source s small derived. statement_fits s (statements_fit source s small derived))
