-- What is open at a place, how deep a line there is, and what a token does to it.
use Rattle.std.specs.Prelude.{ℕ, suc, ◌+◌, Bool, true, false, ◌&&◌, ◌||◌, not, ◌==◌, nat_lt, if◌then◌else◌, List, [], ◌∷◌, drop}
use Rattle.wgsl_model.specs.Tokens.ClassTable.{SymMinusMinus, KwStruct}
use Rattle.wgsl_model_tidy.specs.Roles.{Role, else_word, opening, closing, template_start, block_start, block_end, comma, semicolon, at, binary, item_end, attribute, beginning, is, opens, opens_bracket, closes, ends_operand, begins_item, role_of, is_in_operand, ends_operands, precedence}

-- how a bracket is written: in one line; or in lines of its own, those inside as the author has
-- them,
-- the same with more where one is too long, or with each item in a line
pub data Style : Type 0 where
  together as_written filled item_by_item : Style

-- a block, the members of a structure, the arguments of an attribute, every other bracket
pub data Open : Type 0 where
  block members : Open
  arguments bracket : Style → Open

-- what is open, the innermost first, each with the depth of the line where it closes
abbrev pub Opened : Type 0
Opened = List (Open × ℕ)

-- operands with a line before each operator of a precedence, so many levels deeper than the lines
-- in the
-- innermost are; or a bracket or a block that is open in them
pub data Operands : Type 0 where
  parted : ℕ → ℕ → Operands
  within : Operands

-- what is open, the operands that go on, the innermost first, the depth of the line, what the last
-- token is to what follows, whether operands may begin with the next token, whether the last
-- attribute
-- is one of a statement, a declaration or a member, and whether the next `{` opens a structure
pub record LayoutState : Type 0 where
  pub opened : Opened
  pub operands : List Operands
  pub line : ℕ
  pub last : Role
  pub fresh : Bool
  pub leading : Bool
  pub structure : Bool

-- nothing is before the text
abbrev pub start : LayoutState
start = record {
  opened = [];
  operands = [];
  line = 0;
  last = beginning;
  fresh = true;
  leading = false;
  structure = false;
}

-- the innermost is a bracket or a template list, and no block
abbrev pub in_brackets : Opened → Bool
in_brackets ((bracket style, depth) ∷ outer) = true
in_brackets ((arguments style, depth) ∷ outer) = true
in_brackets opened = false

-- the innermost is no bracket, or a bracket of a style
pub data Enclosing : Type 0 where
  no_bracket one_line own_lines filled_lines item_lines : Enclosing

abbrev pub enclosed_by : Style → Enclosing
enclosed_by together = one_line
enclosed_by as_written = own_lines
enclosed_by filled = filled_lines
enclosed_by item_by_item = item_lines

abbrev pub enclosing : Opened → Enclosing
enclosing ((bracket style, depth) ∷ outer) = enclosed_by style
enclosing ((arguments style, depth) ∷ outer) = enclosed_by style
enclosing opened = no_bracket

-- the innermost has the members of a structure
abbrev pub in_members : Opened → Bool
in_members ((members, depth) ∷ outer) = true
in_members opened = false

-- the innermost has the arguments of an attribute
abbrev pub in_arguments : Opened → Bool
in_arguments ((arguments style, depth) ∷ outer) = true
in_arguments opened = false

-- how deep the lines in the innermost are
abbrev pub inner_depth : Opened → ℕ
inner_depth [] = 0
inner_depth ((kind, depth) ∷ outer) = suc depth

-- how deep the line is that closes it
abbrev pub outer_depth : Opened → ℕ
outer_depth [] = 0
outer_depth ((kind, depth) ∷ outer) = depth

-- a statement, a declaration, a member or a clause begins here, or goes on after its attributes
abbrev pub begins : LayoutState → Bool
begins state = if is state.last attribute then state.leading else begins_item state.last

-- before a token of this role: the last one has ended, or a list of them begins or ends; an `else`
-- goes on with its statement
abbrev pub between_items : LayoutState → Role → Bool
between_items state right = not (in_brackets state.opened)
    && (is right block_end || (begins_item state.last && not (is state.last attribute || is right else_word)))

-- ---- operands

-- the precedence before whose operators lines begin in the innermost operands that go on; none is 0
abbrev pub parted_at : List Operands → ℕ
parted_at (parted n more ∷ outer) = n
parted_at operands = 0

-- lines begin before operators there
abbrev pub are_parted : List Operands → Bool
are_parted operands = not (parted_at operands == 0)

-- the operands outside of the innermost bracket or block go on, and none in it
abbrev pub outside_operands : List Operands → List Operands
outside_operands (parted n more ∷ outer) = outside_operands outer
outside_operands operands = operands

-- those that go on before an operator of a precedence: no operands with operators that bind
-- stronger
abbrev pub up_to : ℕ → List Operands → List Operands
up_to n (parted m more ∷ outer) = if nat_lt n m then up_to n outer else parted m more ∷ outer
up_to n operands = operands

-- those that go on before a token, an operator that binds so or none
abbrev pub operands_before : List Operands → Role → ℕ → List Operands
operands_before operands right binds =
    if ends_operands right then outside_operands operands
    else if is right binary then up_to binds operands
    else operands

-- those that go on after a token; none does after a block
abbrev pub operands_after : List Operands → Role → List Operands
operands_after operands right =
    if opens right then within ∷ operands
    else if is right block_end then outside_operands (drop 1 operands)
    else if closes right then drop 1 operands
    else operands

-- operands may begin after a token: it is in no operand, and no operator in the middle of a line
abbrev pub fresh_after : List Operands → Role → ℕ → Bool
fresh_after operands right class = if is right binary then precedence right class == parted_at operands
    else not (is_in_operand right)

-- ---- depths

-- how many levels deeper the lines in operands are
abbrev pub operand_levels : List Operands → ℕ
operand_levels (parted n more ∷ outer) = more
operand_levels operands = 0

-- a line begins as deep as what is in the innermost: in brackets, where a statement, a
-- declaration, a member or a clause begins, and before `{`
abbrev pub is_at_depth : LayoutState → Role → Bool
is_at_depth state right = in_brackets state.opened || (begins state || is right block_start)

-- where one of these goes on, it is one level deeper; or as many as in the operands that go on
abbrev pub depth_within : LayoutState → Role → ℕ
depth_within state right =
    if are_parted state.operands then operand_levels state.operands + inner_depth state.opened
    else if is_at_depth state right then inner_depth state.opened
    else suc (inner_depth state.opened)

-- a line that begins with a closing bracket is as deep as the line of the opening one
abbrev pub depth_of : LayoutState → Role → ℕ
depth_of state right = if closes right then outer_depth state.opened else depth_within state right

-- a comment on a line of its own is as deep as what follows, but before a closing bracket as
-- deep as what is inside
abbrev pub comment_depth : LayoutState → Role → ℕ
comment_depth state right = if closes right then inner_depth state.opened else depth_within state right

-- ---- after a token

-- what a token of a class does after what is there, before an operand or not: `--` is
-- between operands where one comes after it
abbrev pub role_in : LayoutState → ℕ → Bool → Role
role_in state class before_operand = if class == SymMinusMinus && before_operand then binary
    else role_of (ends_operand state.last) class

-- What a token is to what follows it. An attribute ends with its name or with the `)` after its
-- arguments, a member with the `,` after it, and a statement or a declaration with its `;`, but not
-- in the header of a `for`.
abbrev pub last_after : LayoutState → Role → Role
last_after state right =
    if not (opens_bracket right) && is state.last at then attribute
    else if is right closing && in_arguments state.opened then attribute
    else if is right comma && in_members state.opened then item_end
    else if is right semicolon && not (in_brackets state.opened) then item_end
    else right

-- what a `{` opens
abbrev pub block_opened : LayoutState → Open
block_opened state = if state.structure then members else block

-- what a `(` or a `[` opens
abbrev pub bracket_opened : LayoutState → Style → Open
bracket_opened state style = if is state.last attribute then arguments style else bracket style

-- a block is as deep as the statement or the declaration that it is part of, a bracket as deep as
-- the line where it opens
abbrev pub opened_after_token : LayoutState → ℕ → Role → Style → Opened
opened_after_token state line right style =
    if is right block_start then (block_opened state, inner_depth state.opened) ∷ state.opened
    else if is right opening then (bracket_opened state style, line) ∷ state.opened
    else if is right template_start then (bracket style, line) ∷ state.opened
    else if closes right then drop 1 state.opened
    else state.opened

-- `struct` announces a structure, unless it is the name of an attribute, up to the `{`
abbrev pub structure_after : LayoutState → ℕ → Role → Bool
structure_after state class right =
    if is right block_start then false else if class == KwStruct && not (is state.last at) then true
    else state.structure

-- an attribute is one of a statement, a declaration or a member where one of these begins
abbrev pub leading_after : LayoutState → Role → Bool
leading_after state right = if is right at then begins state else state.leading

-- the state after a token of the role on the right, in a line of this depth; a bracket that it
-- opens is of the style
abbrev pub after_token : LayoutState → ℕ → ℕ → Role → Style → LayoutState
after_token state line class right style =
    record {
      opened = opened_after_token state line right style;
      operands = operands_after state.operands right;
      line = line;
      last = last_after state right;
      fresh = fresh_after state.operands right class;
      leading = leading_after state right;
      structure = structure_after state class right;
    }
