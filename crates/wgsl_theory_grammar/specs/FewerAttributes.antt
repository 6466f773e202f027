-- The grammar of the whole language with attributes in fewer places: the A* of `led` and
-- `left_side` are none.
use Rattle.wgsl_model.specs.Grammar.Symbols.{Dialect, Dialect.parsed, Dialect.recognized, Symbol, return_statement, call_statement, var_statement, value_statement, break_statement, continue_statement, discard_statement, assignment, phony_assignment, increment, decrement, const_assert, switch_clause, continuing_statement, const_declaration, alias_declaration, struct_declaration, enable_directive, requires_directive, diagnostic_directive, Value, Rule}
use Rattle.wgsl_model.specs.Grammar.Written.{rules}

-- the rules with `led` or `left_side`, which differ between the dialects by these attributes alone,
-- are taken from the one without them
abbrev pub fewer_of : Symbol → Dialect
fewer_of return_statement = recognized
fewer_of call_statement = recognized
fewer_of var_statement = recognized
fewer_of value_statement = recognized
fewer_of break_statement = recognized
fewer_of continue_statement = recognized
fewer_of discard_statement = recognized
fewer_of assignment = recognized
fewer_of phony_assignment = recognized
fewer_of increment = recognized
fewer_of decrement = recognized
fewer_of const_assert = recognized
fewer_of switch_clause = recognized
fewer_of continuing_statement = recognized
fewer_of const_declaration = recognized
fewer_of alias_declaration = recognized
fewer_of struct_declaration = recognized
fewer_of enable_directive = recognized
fewer_of requires_directive = recognized
fewer_of diagnostic_directive = recognized
fewer_of n = parsed

-- the rules
abbrev pub fewer_attributes : (n : Symbol) → Rule (Value n)
fewer_attributes n = rules (fewer_of n) n
