-- Written by tools/tables/packed_statements.py from the equations of packed forms: which statements
-- a `;` ends.
use Rattle.std.specs.Prelude.{Bool, true, false}
use Rattle.wgsl_model.specs.Trees.Statements.{Statement, statement, compound, if_statement, switch_statement, loop_statement, for_statement, while_statement}

-- a `;` ends a statement
abbrev pub is_ended : Statement → Bool
is_ended (statement attributes (compound ss)) = false
is_ended (statement attributes (if_statement s)) = false
is_ended (statement attributes (switch_statement s)) = false
is_ended (statement attributes (loop_statement s)) = false
is_ended (statement attributes (for_statement s)) = false
is_ended (statement attributes (while_statement s)) = false
is_ended s = true
