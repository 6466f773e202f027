-- The attributes of statements and of their clauses, in a plain tree.
use Rattle.wgsl_model.specs.Trees.Attributes.{Attributes}
use Rattle.wgsl_model.specs.Trees.Statements as plain

abbrev pub attributes_of_statement : plain.Statement → Attributes
attributes_of_statement (plain.statement attributes s) = attributes

abbrev pub attributes_of_else_if : plain.ElseIfClause → Attributes
attributes_of_else_if (plain.else_if_clause attributes e block) = attributes

abbrev pub attributes_of_else : plain.ElseClause → Attributes
attributes_of_else (plain.else_clause attributes block) = attributes

abbrev pub attributes_of_clause : plain.SwitchClause → Attributes
attributes_of_clause (plain.switch_clause attributes selectors block) = attributes

abbrev pub attributes_of_continuing : plain.ContinuingStatement → Attributes
attributes_of_continuing (plain.continuing attributes body condition) = attributes
