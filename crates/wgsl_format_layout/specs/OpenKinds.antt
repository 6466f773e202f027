-- What is open, without depths and styles, as the definitions see it.
use Rattle.std.specs.Prelude.{ℕ, Bool, false, Option, Some, None}
use Rattle.wgsl_model_tidy.specs.Roles.{role_of, begins_operand}
use Rattle.wgsl_model_tidy.specs.Open as plain
use Rattle.wgsl_lex_token.specs.declared.kind_table.TokenKind.{TokenKind}
use Rattle.wgsl_lex_token.specs.View.{class_of_kind}
use Rattle.wgsl_format_layout.specs.declared.context.Kind.{Kind}
use Rattle.wgsl_format_layout.specs.declared.context.Kind.TheVariants.{Block, Members, Arguments, Bracket}

-- all brackets are in one line
abbrev pub kind_view : Kind → plain.Open
kind_view Block = plain.block
kind_view Members = plain.members
kind_view Arguments = plain.arguments plain.together
kind_view Bracket = plain.bracket plain.together

-- the first of two
abbrev pub open_kind : plain.Open × ℕ → plain.Open
open_kind (kind, depth) = kind

-- an operand begins with a token of a kind, if there is one
abbrev pub operand_next : Option TokenKind → Bool
operand_next None = false
operand_next (Some kind) = begins_operand (role_of false (class_of_kind kind))
