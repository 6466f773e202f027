use Rattle.std.proofs.Common.{◌+◌, ◌*◌, length}
use Rattle.wgsl_read_cursor.specs.Reading.{state}
use Rattle.wgsl_read_simple.proofs.left_side.+left_side.Given as goal

abbrev pub decreases-parse_lhs_expression : goal.decreases-parse_lhs_expression
decreases-parse_lhs_expression l = 3 * length (state l.tokens.now).rest + 2

abbrev pub decreases-parse_left_side_in_parentheses : goal.decreases-parse_left_side_in_parentheses
decreases-parse_left_side_in_parentheses l = 3 * length (state l.tokens.now).rest + 1

abbrev pub decreases-parse_prefixed_left_side : goal.decreases-parse_prefixed_left_side
decreases-parse_prefixed_left_side l = 3 * length (state l.tokens.now).rest + 1

abbrev pub decreases-parse_parenthesized_left_side : goal.decreases-parse_parenthesized_left_side
decreases-parse_parenthesized_left_side l = 3 * length (state l.tokens.now).rest

abbrev pub decreases-parse_unary_left_side : goal.decreases-parse_unary_left_side
decreases-parse_unary_left_side l = 3 * length (state l.tokens.now).rest
