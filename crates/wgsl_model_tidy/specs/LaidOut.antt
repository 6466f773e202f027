-- The laid-out text of pieces: each piece as `Shown` has it, and before it nothing, a space, or a
-- line break, an empty line at most, and the blank space of the line's depth.
use Rattle.std.specs.Prelude.{ℕ, zero, suc, ◌+◌, ◌-◌, Bool, true, false, not, ◌&&◌, ◌||◌, ◌==◌, nat_lt, if◌then◌else◌, List, [], ◌∷◌, ◌++◌, drop, codes}
use Rattle.std.specs.List.{list_any, before_first}
use Rattle.wgsl_model.specs.Tokens.ClassTable.{LineComment, BlockComment}
use Rattle.wgsl_model_tidy.specs.Pieces.{Piece}
use Rattle.wgsl_model_tidy.specs.Shown.{shown}
use Rattle.wgsl_model_tidy.specs.Roles.{Role, beginning, opening, template_start, template_end, block_start, block_end, binary, assign, is, is_tight, opens, opens_bracket, closes_bracket, closes, begins_operand, comma, precedences}
use Rattle.wgsl_model_tidy.specs.Joints.{Joint, line, nothing, space, nothing_or_line, space_or_line, is_between_items, joint}
use Rattle.wgsl_model_tidy.specs.Layout.{Layout, level, column_after}
use Rattle.wgsl_model_tidy.specs.Open.{Style, together, as_written, filled, item_by_item, Operands, parted, LayoutState, Enclosing, one_line, filled_lines, start, enclosing, in_brackets, inner_depth, parted_at, are_parted, operands_before, between_items, depth_of, comment_depth, after_token}
use Rattle.wgsl_model_tidy.specs.Ahead.{is_comment, next_role, Ahead, tokens_ahead, at_front, has_several, fits, ends_chain, ends_part, has_operator, last_operand, never, up_to_last, last_passes, content, keeps_rows, is_table}

-- nothing, a space, or a line break, with an empty line or without, and the blank space of a line
-- so
-- deep
pub data Gap : Type 0 where
  closed blank : Gap
  broken : Bool → ℕ → Gap

-- the last piece is a token, a line comment, a block comment, one that leads (nothing but such
-- comments is before it in its line), or one that is not closed; where there is none, it counts
-- as a token
pub data Last : Type 0 where
  token line_comment block_comment leading_comment open_comment : Last

-- the state after the last token, what the last piece is, the column after it, and the tokens ahead
pub record Spot : Type 0 where
  pub state : LayoutState
  pub last : Last
  pub column : ℕ
  pub ahead : List Ahead

-- ---- which gap is before a piece; n is how many line breaks are there, and break what a line
-- end is there

-- a line break of the author's stays
abbrev pub kept_gap : ℕ → Gap → Gap → Gap
kept_gap zero break other = other
kept_gap (suc n) break other = break

-- by what is between two tokens
abbrev pub joint_gap : Joint → ℕ → Gap → Gap
joint_gap line n break = break
joint_gap nothing n break = closed
joint_gap space n break = blank
joint_gap nothing_or_line n break = kept_gap n break closed
joint_gap space_or_line n break = kept_gap n break blank

-- the last piece is a token, or there is none
abbrev pub is_token : Last → Bool
is_token token = true
is_token last = false

-- a line break has to be there
abbrev pub is_line : Joint → Bool
is_line line = true
is_line joint = false

-- what nothing is before, after a comment too
abbrev pub closes_up : Role → Bool
closes_up right = is_tight right || is right template_end

-- between a comment and a token where no line break has to be: a line break of the author's stays
abbrev pub loose_joint : Role → Joint
loose_joint right = if closes_up right then nothing_or_line else space_or_line

-- between a block comment and a token, by what is between that and the token before
abbrev pub after_comment : Joint → Role → Joint
after_comment line right = line
after_comment joint right = loose_joint right

-- between a comment that leads and a token: `}` begins a line, and so does a closing bracket before
-- which a line has to end
abbrev pub after_leading : Joint → Role → Joint
after_leading between right = if is right block_end || (is_line between && closes_bracket right)
    then line else loose_joint right

-- before a token: what is between it and the token before, by what they do
abbrev pub token_gap : Joint → Last → Role → Role → ℕ → Gap → Gap
token_gap between token left right n break = if is left beginning then closed else joint_gap between n break
token_gap between line_comment left right n break = break
token_gap between leading_comment left right n break = joint_gap (after_leading between right) n break
token_gap between last left right n break = joint_gap (after_comment between right) n break

-- before a comment after a token: a line break where it belongs to the next token; else nothing
-- before a block comment after an opening bracket, and a space elsewhere, or a line break of the
-- author's
abbrev pub comment_after : ℕ → Role → Bool → ℕ → Gap → Gap
comment_after class left owned n break =
    if is left beginning then closed
    else if owned then break
    else if (is left opening || is left template_start) && not (class == LineComment) then kept_gap n break closed
    else kept_gap n break blank

-- before a comment
abbrev pub comment_gap : ℕ → Last → Role → Bool → ℕ → Gap → Gap
comment_gap class token left owned n break = comment_after class left owned n break
comment_gap class line_comment left owned n break = break
comment_gap class last left owned n break = kept_gap n break blank

-- the last piece is an opening bracket
abbrev pub is_after_opening : Last → Role → Bool
is_after_opening token left = opens left
is_after_opening last left = false

-- a line break before a token of the role on the right: an empty line of the author's stays between
-- items, but neither after an opening bracket nor before a closing one
abbrev pub line_end : Bool → Last → Role → Role → ℕ → ℕ → Gap
line_end items last left right n depth =
    broken (nat_lt 1 n && (items && not (is_after_opening last left || closes right))) depth

-- a token comes after the comments at the front of these pieces, with no line break before any of
-- them or before it
abbrev pub is_followed : List Piece → Bool
is_followed [] = false
is_followed (p ∷ ps) = p.line_ends == 0 && (if is_comment p.class then is_followed ps else true)

-- blank space so deep
abbrev pub indentation : Layout → ℕ → List ℕ
indentation layout zero = []
indentation layout (suc depth) = level layout ++ indentation layout depth

-- the column at which lines so deep begin
abbrev pub line_column : Layout → ℕ → ℕ
line_column layout depth = column_after layout 0 (indentation layout depth)

-- ---- where a line begins with a token that is on the right, or with a comment that belongs to it

-- with an operator of parted operands, and with `{` after them
abbrev pub begins_in_operands : List Operands → Role → ℕ → Bool
begins_in_operands operands right binds = if is right block_start then are_parted operands
    else is right binary && binds == parted_at (operands_before operands right binds)

-- with one operand that is assigned, outside brackets, if neither all of it nor all up to its first
-- bracket fits in the line
abbrev pub begins_assigned : Layout → Spot → ℕ → Bool
begins_assigned layout spot n = (is spot.state.last assign && not (in_brackets spot.state.opened))
    && (not (list_any (λ t. t.level == n && not (t.binds == 0)) (before_first (ends_chain n 0) spot.ahead))
    && not (fits layout (ends_part n 0) spot.column spot.ahead))

-- it is filled
abbrev pub is_filled : Enclosing → Bool
is_filled filled_lines = true
is_filled enclosing = false

-- with an item of a bracket that is filled, if the item does not fit in the line
abbrev pub begins_filled : Layout → Spot → ℕ → Bool
begins_filled layout spot n = is_filled (enclosing spot.state.opened)
    && not (fits layout (ends_chain n 0) spot.column spot.ahead)

-- how the next token binds, if it is an operator between operands, and how much is open before it
abbrev pub next_binds : List Ahead → ℕ
next_binds [] = 0
next_binds (t ∷ ts) = t.binds

abbrev pub next_level : List Ahead → ℕ
next_level [] = 0
next_level (t ∷ ts) = t.level

-- with the first of the tokens ahead, right after a token
abbrev pub begins_line : Layout → Spot → Role → Bool
begins_line layout spot right =
    if is_between_items spot.state.last right then begins_filled layout spot (next_level spot.ahead)
    else begins_in_operands spot.state.operands right (next_binds spot.ahead)
    || begins_assigned layout spot (next_level spot.ahead)

-- no bracket, or one that may contain line breaks
abbrev pub may_break : Enclosing → Bool
may_break one_line = false
may_break enclosing = true

-- what is between the last token and the next one
abbrev pub between : Layout → Spot → Role → Joint
between layout spot right =
    if is_token spot.last && (may_break (enclosing spot.state.opened) && begins_line layout spot right) then line
    else joint (enclosing spot.state.opened) spot.state.last right

-- ---- the gap before a piece

-- The first comment after a token belongs to the next token, of the role on the right: that follows
-- in the line of the comment, and begins a line after the token before. A closing bracket owns
-- none. Later comments go by the gap before them.
abbrev pub owned : Layout → Spot → Role → List Piece → Bool
owned layout spot right ps = is_token spot.last
    && ((is_line (between layout spot right) && not (closes right)) && is_followed ps)

-- how many of so many line breaks of the author's count: none in a bracket in one line
abbrev pub counted : Spot → ℕ → ℕ
counted spot n = if may_break (enclosing spot.state.opened) then n else 0

-- the state before the next token
abbrev pub before_next : Spot → Role → LayoutState
before_next spot right =
    record spot.state { operands = operands_before spot.state.operands right (next_binds spot.ahead) }

-- the gap before a comment of a class, after a number of line breaks; the next token is of the role
-- on the right, and owns it or does not
abbrev pub gap_before_comment : Spot → Role → ℕ → Bool → ℕ → Gap
gap_before_comment spot right class owned n =
    let state = before_next spot right in
    comment_gap class spot.last spot.state.last owned (counted spot n)
    (line_end (between_items state right) spot.last spot.state.last beginning (counted spot n)
    (comment_depth state right))

-- the gap before a token of the role on the right
abbrev pub gap_before_token : Layout → Spot → Role → ℕ → Gap
gap_before_token layout spot right n =
    let state = before_next spot right in
    token_gap (between layout spot right) spot.last spot.state.last right (counted spot n)
    (line_end (between_items state right) spot.last spot.state.last right (counted spot n) (depth_of state right))

-- the gap before a piece, with others after it; the first token from there on is of the role on the
-- right
abbrev pub gap_before : Layout → Spot → Role → Piece → List Piece → Gap
gap_before layout spot right p ps = if is_comment p.class
    then gap_before_comment spot right p.class (owned layout spot right ps) p.line_ends
    else gap_before_token layout spot right p.line_ends

-- ---- long lines: what is decided after a token, with n brackets open before it, by the column
-- after it
-- and the tokens ahead

-- the operands up to the bracket with which they end fit in the line, and the last one does not fit
-- in
-- a line of its own, so deep: that bracket is opened
abbrev pub opens_last : Layout → ℕ → ℕ → ℕ → ℕ → ℕ → List Ahead → Bool
opens_last layout n limit m depth column ts =
    let head = up_to_last n (before_first (ends_chain n limit) ts) in
    last_passes (λ t. t.several) head
    && (fits layout never column head
    && not (fits layout (ends_chain n limit) (line_column layout depth) (at_front (last_operand n limit m ts))))

-- The operands that begin with the token, beside those around them: if they do not fit in the line,
-- lines begin before the operators that bind weakest, and so in the first operand, by these
-- precedences.
-- The lines are so many levels deeper than those in the innermost.
abbrev pub parted_operands : Layout → ℕ → ℕ → ℕ → ℕ → List Ahead → List ℕ → List Operands → List Operands
parted_operands layout n inner more column ts [] operands = operands
parted_operands layout n inner more column ts (m ∷ ms) operands =
    let limit = parted_at operands in
    if not (has_operator n limit m ts) then parted_operands layout n inner more column ts ms operands
    else if fits layout (ends_chain n limit) column ts || opens_last layout n limit m (more + inner) column ts
    then operands
    else parted_operands layout n inner (suc more) column ts ms (parted m more ∷ operands)

-- How a bracket is written that the token opens: in lines of its own if a comma is after its last
-- item,
-- or if it does not fit in the line with what follows up to the next such bracket. A table is
-- filled then;
-- else the author's rows stay if they fit.
abbrev pub style_of : Layout → ℕ → ℕ → ℕ → ℕ → List Ahead → Style
style_of layout n limit depth column ts =
    let breaks = last_passes (λ t. is t.role comma) (content (suc n) ts)
    || (has_several ts && not (fits layout (ends_part n limit) column ts)) in
    if breaks && is_table (suc n) ts then filled
    else if keeps_rows layout (suc n) (line_column layout (suc depth)) ts then as_written
    else if breaks then item_by_item
    else together

-- the operands that go on with a token, the first one ahead so far, in a line so deep: the lines in
-- those
-- that begin are a level deeper than that line
abbrev pub operands_with : Layout → LayoutState → ℕ → ℕ → Role → List Ahead → List Operands
operands_with layout state depth column right [] = state.operands
operands_with layout state depth column right (t ∷ ts) =
    if (state.fresh && begins_operand right) && may_break (enclosing state.opened)
    then parted_operands layout t.level (inner_depth state.opened) (suc depth - inner_depth state.opened) column ts
    precedences state.operands
    else state.operands

-- how a bracket is written that it opens, in such operands
abbrev pub style_with : Layout → List Operands → ℕ → ℕ → Role → List Ahead → Style
style_with layout operands depth column right [] = together
style_with layout operands depth column right (t ∷ ts) =
    if opens_bracket right then style_of layout t.level (parted_at operands) depth column ts else together

-- the state after it
abbrev pub state_with : Layout → LayoutState → ℕ → ℕ → ℕ → Role → List Ahead → LayoutState
state_with layout state depth column class right ts =
    let operands = operands_with layout state depth column right ts in
    after_token (record state { operands = operands }) depth class right
    (style_with layout operands depth column right ts)

-- ---- the whole text

abbrev pub gap_text : Layout → Gap → List ℕ
gap_text layout closed = []
gap_text layout blank = codes " "
gap_text layout (broken true depth) = codes "\n\n" ++ indentation layout depth
gap_text layout (broken false depth) = codes "\n" ++ indentation layout depth

-- how deep a line is in which a piece is after a gap
abbrev pub depth_after : Gap → ℕ → ℕ
depth_after (broken empty depth) before = depth
depth_after gap before = before

-- a piece after this gap begins a line
abbrev pub is_at_front : Gap → Last → Role → Bool
is_at_front (broken empty depth) last left = true
is_at_front gap token left = is left beginning
is_at_front gap last left = false

-- the characters of a piece after this gap; lines that have a front of their own have the blank
-- space of this line and a space
abbrev pub piece_text : Layout → Spot → Gap → Piece → List ℕ
piece_text layout spot gap p = shown (indentation layout (depth_after gap spot.state.line) ++ codes " ")
    (is_at_front gap spot.last spot.state.last) p

-- a comment after this gap leads: it begins a line or the text, or is after one that leads
abbrev pub leads : Gap → Last → Role → Bool
leads (broken empty depth) last left = true
leads gap token left = is left beginning
leads gap leading_comment left = true
leads gap last left = false

-- which comment is last after a comment of a class, that leads or does not
abbrev pub comment_last : ℕ → Bool → Last
comment_last class leading = if class == LineComment then line_comment else if class == BlockComment
    then (if leading then leading_comment else block_comment) else open_comment

-- after a piece after this gap
abbrev pub after_piece : Layout → Spot → Gap → Role → Piece → Spot
after_piece layout spot gap right p =
    let depth = depth_after gap spot.state.line in
    let column = column_after layout spot.column (gap_text layout gap ++ piece_text layout spot gap p) in
    if is_comment p.class then record {
      state = record spot.state { line = depth };
      last = comment_last p.class (leads gap spot.last spot.state.last);
      column = column;
      ahead = spot.ahead;
    }
    else record {
      state = state_with layout (before_next spot right) depth column p.class right spot.ahead;
      last = token;
      column = column;
      ahead = drop 1 spot.ahead;
    }

-- what is after the last piece: a line break, but not where a comment would go on with it, nor
-- where there is no piece
abbrev pub ending : Last → Role → List ℕ
ending open_comment left = []
ending token left = if is left beginning then [] else codes "\n"
ending last left = codes "\n"

-- pieces formatted after a spot
abbrev pub laid_from : Layout → Spot → List Piece → List ℕ
laid_from layout spot [] = ending spot.last spot.state.last
laid_from layout spot (p ∷ ps) =
    let right = next_role spot.state (p ∷ ps) in
    let gap = gap_before layout spot right p ps in
    gap_text layout gap ++ (piece_text layout spot gap p ++ laid_from layout (after_piece layout spot gap right p) ps)

-- nothing is formatted yet of these pieces
abbrev pub first_spot : Layout → List Piece → Spot
first_spot layout ps = record { state = start; last = token; column = 0; ahead = tokens_ahead layout start ps }

-- the laid-out text of pieces
abbrev pub laid_out : Layout → List Piece → List ℕ
laid_out layout ps = laid_from layout (first_spot layout ps) ps
