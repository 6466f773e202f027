-- Written by tools/tables/tree_nodes.py from crates/wgsl_model/nodes: which variant a plain tree
-- is.
use Rattle.std.specs.Prelude.{Bool, true, false}
use Rattle.wgsl_model.specs.Trees.Statements as plain

abbrev pub is_compound : plain.Statement → Bool
is_compound (plain.statement _ (plain.compound _)) = true
is_compound _ = false

abbrev pub is_assignment : plain.Statement → Bool
is_assignment (plain.statement _ (plain.assignment _)) = true
is_assignment _ = false

abbrev pub is_increment : plain.Statement → Bool
is_increment (plain.statement _ (plain.increment _)) = true
is_increment _ = false

abbrev pub is_decrement : plain.Statement → Bool
is_decrement (plain.statement _ (plain.decrement _)) = true
is_decrement _ = false

abbrev pub is_if : plain.Statement → Bool
is_if (plain.statement _ (plain.if_statement _)) = true
is_if _ = false

abbrev pub is_switch : plain.Statement → Bool
is_switch (plain.statement _ (plain.switch_statement _)) = true
is_switch _ = false

abbrev pub is_loop : plain.Statement → Bool
is_loop (plain.statement _ (plain.loop_statement _)) = true
is_loop _ = false

abbrev pub is_for : plain.Statement → Bool
is_for (plain.statement _ (plain.for_statement _)) = true
is_for _ = false

abbrev pub is_while : plain.Statement → Bool
is_while (plain.statement _ (plain.while_statement _)) = true
is_while _ = false

abbrev pub is_break : plain.Statement → Bool
is_break (plain.statement _ plain.break_statement) = true
is_break _ = false

abbrev pub is_continue : plain.Statement → Bool
is_continue (plain.statement _ plain.continue_statement) = true
is_continue _ = false

abbrev pub is_return : plain.Statement → Bool
is_return (plain.statement _ (plain.return_statement _)) = true
is_return _ = false

abbrev pub is_discard : plain.Statement → Bool
is_discard (plain.statement _ plain.discard_statement) = true
is_discard _ = false

abbrev pub is_function_call : plain.Statement → Bool
is_function_call (plain.statement _ (plain.function_call_statement _)) = true
is_function_call _ = false

abbrev pub is_const_assert : plain.Statement → Bool
is_const_assert (plain.statement _ (plain.const_assert _)) = true
is_const_assert _ = false

abbrev pub is_declaration : plain.Statement → Bool
is_declaration (plain.statement _ (plain.declaration _)) = true
is_declaration _ = false
