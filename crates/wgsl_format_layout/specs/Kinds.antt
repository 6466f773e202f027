-- What is open, and the operands that go on, as the definitions see them.
use Rattle.std.specs.Prelude.{Bool, true, false, List, ◌∷◌}
use Rattle.wgsl_model_tidy.specs.Open as plain
use Rattle.wgsl_format_layout.specs.declared.opened.Style.{Style}
use Rattle.wgsl_format_layout.specs.declared.opened.Style.TheVariants.{Together, AsWritten, Filled, ItemByItem}
use Rattle.wgsl_format_layout.specs.declared.opened.Open.{Open}
use Rattle.wgsl_format_layout.specs.declared.opened.Open.TheVariants.{Block, Bracket}
use Rattle.wgsl_format_layout.specs.declared.opened.Enclosing.{Enclosing}
use Rattle.wgsl_format_layout.specs.declared.opened.Enclosing.TheVariants.{NoBracket, OneLine, OwnLines, FilledLines, ItemLines}
use Rattle.wgsl_format_layout.specs.declared.operands.Part.{Part}
use Rattle.wgsl_format_layout.specs.declared.operands.Part.TheVariants.{Parted, Within}

abbrev pub style_view : Style → plain.Style
style_view Together = plain.together
style_view AsWritten = plain.as_written
style_view Filled = plain.filled
style_view ItemByItem = plain.item_by_item

-- a block and the members of a structure are one, and so are all brackets of a style
abbrev pub open_view : Open → plain.Open
open_view Block = plain.block
open_view (Bracket style) = plain.bracket (style_view style)

abbrev pub enclosing_view : Enclosing → plain.Enclosing
enclosing_view NoBracket = plain.no_bracket
enclosing_view OneLine = plain.one_line
enclosing_view OwnLines = plain.own_lines
enclosing_view FilledLines = plain.filled_lines
enclosing_view ItemLines = plain.item_lines

abbrev pub part_view : Part → plain.Operands
part_view (Parted precedence depth) = plain.parted precedence depth
part_view Within = plain.within

-- operands go on in the innermost bracket or block
abbrev pub any_go_on : List plain.Operands → Bool
any_go_on (plain.parted n more ∷ outer) = true
any_go_on operands = false
