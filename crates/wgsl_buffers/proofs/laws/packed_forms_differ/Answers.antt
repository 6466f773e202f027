use Rattle.wgsl_theory_packed.proofs.Derived.OwnForms.{units_of_texts, directives_of_texts, declarations_of_texts, statements_of_texts, expressions_of_texts}
use Rattle.wgsl_buffers.proofs.laws.packed_forms_differ.Goals as goal

pub returns-clause-unit : goal.returns-clause-unit
returns-clause-unit c = units_of_texts

pub returns-clause-directive : goal.returns-clause-directive
returns-clause-directive c = directives_of_texts

pub returns-clause-declaration : goal.returns-clause-declaration
returns-clause-declaration c = declarations_of_texts

pub returns-clause-statement : goal.returns-clause-statement
returns-clause-statement c = statements_of_texts

pub returns-clause-expression : goal.returns-clause-expression
returns-clause-expression c = expressions_of_texts
