-- What the code takes tokens and gaps for, as the definitions see it.
use Rattle.wgsl_model_tidy.specs.Roles as plain
use Rattle.wgsl_model_tidy.specs.Joints as plain_joint
use Rattle.wgsl_format_layout.specs.declared.role.Role.{Role}
use Rattle.wgsl_format_layout.specs.declared.role.Role.TheVariants as role
use Rattle.wgsl_format_layout.specs.declared.joint.Joint.{Joint}
use Rattle.wgsl_format_layout.specs.declared.joint.Joint.TheVariants as joint

-- what a token does
abbrev pub role_view : Role → plain.Role
role_view role.Name = plain.name
role_view role.Unsuffixed = plain.unsuffixed
role_view role.Number = plain.number
role_view role.Word = plain.word
role_view role.ElseWord = plain.else_word
role_view role.Opening = plain.opening
role_view role.Closing = plain.closing
role_view role.TemplateStart = plain.template_start
role_view role.TemplateEnd = plain.template_end
role_view role.BlockStart = plain.block_start
role_view role.BlockEnd = plain.block_end
role_view role.Comma = plain.comma
role_view role.Semicolon = plain.semicolon
role_view role.Colon = plain.colon
role_view role.Period = plain.period
role_view role.At = plain.at
role_view role.Minus = plain.minus
role_view role.Ampersand = plain.ampersand
role_view role.Prefix = plain.prefix
role_view role.Binary = plain.binary
role_view role.Assign = plain.assign
role_view role.Step = plain.step
role_view role.Beginning = plain.beginning
role_view role.ItemEnd = plain.item_end
role_view role.Attribute = plain.attribute

-- what is between two tokens
abbrev pub joint_view : Joint → plain_joint.Joint
joint_view joint.Line = plain_joint.line
joint_view joint.Nothing = plain_joint.nothing
joint_view joint.Space = plain_joint.space
joint_view joint.NothingOrLine = plain_joint.nothing_or_line
joint_view joint.SpaceOrLine = plain_joint.space_or_line
