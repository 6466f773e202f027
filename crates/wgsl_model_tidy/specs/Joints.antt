-- What is between two neighbouring tokens.
use Rattle.std.specs.Prelude.{Bool, not, ◌&&◌, ◌||◌, if◌then◌else◌}
use Rattle.wgsl_model_tidy.specs.Roles.{Role, name, unsuffixed, number, word, else_word, opening, template_start, template_end, block_start, block_end, comma, period, at, minus, ampersand, step, item_end, attribute, semicolon, is, ends_operand, begins_operand, wants_operand, is_tight, opens_bracket, closes_bracket}
use Rattle.wgsl_model_tidy.specs.Open.{Enclosing, no_bracket, one_line, own_lines, filled_lines, item_lines}

pub data Joint : Type 0 where
  -- a line break
  line : Joint
  -- nothing, and a space
  nothing space : Joint
  -- the same, or the line break that the author put there
  nothing_or_line space_or_line : Joint

-- `- -` and `& &` stay apart, since `--` and `&&` are tokens
abbrev pub stay_apart : Role → Role → Bool
stay_apart left right = (is left minus && is right minus) || (is left ampersand && is right ampersand)

-- nothing is after `(`, `[` and `@`, between `.` and a name, and where an operand comes next
abbrev pub tight_after : Role → Role → Bool
tight_after left right =
    (is left opening || is left at) || ((is left period && is right name)
    || (wants_operand left && (begins_operand right && not (stay_apart left right))))

-- nothing is before the `(` of arguments and the `[` of an index
abbrev pub is_applied : Role → Role → Bool
is_applied left right = is right opening && (ends_operand left || is left attribute)

-- nor before the brackets of a template list
abbrev pub is_template : Role → Role → Bool
is_template left right = (is right template_start && (is left name || is left word))
    || (is right template_end && (ends_operand left || is left comma))

-- nor before `.`, but after a whole number without a suffix, which would go on with it; nor before
-- `++` and `--`, but after a number
abbrev pub is_continued : Role → Role → Bool
is_continued left right = ends_operand left && ((is right period && not (is left unsuffixed))
    || (is right step && not (is left number || is left unsuffixed)))

-- two neighbours are closed up
abbrev pub closed_up : Role → Role → Bool
closed_up left right = (is_tight right || tight_after left right)
    || (is_applied left right || (is_template left right || is_continued left right))

-- elsewhere a line break of the author's stays after `,` and after an attribute
abbrev pub continues_line : Role → Bool
continues_line left = is left comma || is left attribute

-- after `}`; a `;` of the author's may be in a line of its own, as after another
abbrev pub after_block : Role → Joint
after_block right = if is right else_word then space else if is_tight right
    then (if is right semicolon then nothing_or_line else nothing) else line

-- what is between two neighbours in a bracket in one line
abbrev pub joint_in_line : Role → Role → Joint
joint_in_line left right = if closed_up left right then nothing else space

-- what is between them in no bracket; `{` is in the line of what it belongs to
abbrev pub joint_in_lines : Role → Role → Joint
joint_in_lines left right =
    if is left block_start then (if is right block_end then nothing else line)
    else if is left item_end then (if is right semicolon then nothing_or_line else line)
    else if is right block_end then line
    else if is left block_end then after_block right
    else if is right block_start then space
    else if closed_up left right then nothing
    else if continues_line left then space_or_line
    else space

-- an item ends and another begins
abbrev pub is_between_items : Role → Role → Bool
is_between_items left right = (is left comma || is left semicolon) && not (closed_up left right)

-- the same in a bracket in lines of its own: a line ends after the opening and before the closing
-- bracket, and between items where the joint of these asks for it
abbrev pub joint_in_own_lines : Joint → Role → Role → Joint
joint_in_own_lines between_items left right =
    if opens_bracket left || closes_bracket right then line
    else if is_between_items left right then between_items
    else joint_in_line left right

-- what is between two neighbours
abbrev pub joint : Enclosing → Role → Role → Joint
joint no_bracket left right = joint_in_lines left right
joint one_line left right = joint_in_line left right
joint own_lines left right = joint_in_own_lines space_or_line left right
joint filled_lines left right = joint_in_own_lines space_or_line left right
joint item_lines left right = joint_in_own_lines line left right
