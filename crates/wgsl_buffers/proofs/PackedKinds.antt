-- What the packed form of a node of each kind prints.
use Rattle.std.proofs.Common.{ℕ, List, [], codes, refl}
use Rattle.wgsl_model_packed.specs.Printing.{IsJsonOf, Prints}
use Rattle.wgsl_theory_packed.specs.Shown.{Shows}
use Rattle.wgsl_theory_packed.proofs.Alike.{alike}
use Rattle.wgsl_theory_packed.proofs.Shown.{shown_alone}
use Rattle.wgsl_theory_packed.proofs.Expressions.{shows_expression}
use Rattle.wgsl_theory_packed.proofs.Attributes.{shows_attribute, shows_type_constraint}
use Rattle.wgsl_theory_packed.proofs.Declarations.{shows_kind, shows_selector, shows_break_if}
use Rattle.wgsl_theory_packed.proofs.Statements.{shows_statement, shows_if_clause, shows_else_if_clause, shows_else_clause, shows_switch_clause, shows_continuing}
use Rattle.wgsl_theory_packed.proofs.Units.{shows_unit, shows_directive, shows_global_declaration, shows_member, shows_parameter}
use Rattle.wgsl_buffers.specs.Kinds.{Kind, a_module, a_directive, a_declaration, a_statement, an_expression, an_attribute, a_member, a_parameter, a_declaration_kind, a_selector, an_if_clause, an_else_if_clause, an_else_clause, a_switch_clause, a_continuing, a_break_if, a_type_constraint, printing_of}

shown : (kind : Kind) (node : (printing_of kind).Node)
    → Shows 0 (codes "$") ((printing_of kind).packed node) ((printing_of kind).print node)
shown a_module u = shows_unit u
shown a_directive d = shows_directive d
shown a_declaration d = shows_global_declaration d
shown a_statement s = shows_statement s
shown an_expression e = shows_expression e
shown an_attribute a = shows_attribute a
shown a_member m = shows_member m
shown a_parameter p = shows_parameter p
shown a_declaration_kind k = shows_kind k
shown a_selector s = shows_selector s
shown an_if_clause c = shows_if_clause c
shown an_else_if_clause c = shows_else_if_clause c
shown an_else_clause c = shows_else_clause c
shown a_switch_clause c = shows_switch_clause c
shown a_continuing c = shows_continuing c
shown a_break_if b = shows_break_if b
shown a_type_constraint t = shows_type_constraint t

-- what is printed of the packed form of a node is what is printed of the node
pub packed_prints : (kind : Kind) (node : (printing_of kind).Node)
    → Prints 0 (codes "$") ((printing_of kind).packed node) ((printing_of kind).print node) []
packed_prints kind node = shown_alone (shown kind node)

-- so it has JSON
pub packed_has_json : (kind : Kind) (node : (printing_of kind).Node)
    → (text : List ℕ) × IsJsonOf ((printing_of kind).packed node) text
packed_has_json kind node =
    let written = alike 0 (packed_prints kind node) (codes "$") refl refl in (written.printed, written.prints)
