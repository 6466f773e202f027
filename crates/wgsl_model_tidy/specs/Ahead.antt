-- The tokens ahead of a place, and what of them fits in a line.
use Rattle.std.specs.Prelude.{ℕ, suc, ◌+◌, Bool, false, not, ◌&&◌, ◌||◌, ◌==◌, nat_lt, nat_le, if◌then◌else◌, List, [], ◌∷◌, filter, length}
use Rattle.std.specs.List.{list_any, list_all, before_first}
use Rattle.wgsl_model.specs.Tokens.ClassTable.{LineComment, BlockComment}
use Rattle.wgsl_model_tidy.specs.Pieces.{Piece, OpenComment}
use Rattle.wgsl_model_tidy.specs.Layout.{Layout, column_after}
use Rattle.wgsl_model_tidy.specs.Roles.{Role, comma, minus, prefix, binary, beginning, is, is_literal, opens_bracket, closes, role_of, begins_operand, ends_item, ends_operands, precedence}
use Rattle.wgsl_model_tidy.specs.Joints.{closed_up, is_between_items}
use Rattle.wgsl_model_tidy.specs.Open.{together, LayoutState, role_in, after_token}

-- ---- comments, and the token after them

-- a comment
abbrev pub is_comment : ℕ → Bool
is_comment class = class == LineComment || (class == BlockComment || class == OpenComment)

-- a comment after which its line can go on: a closed block comment that is in one line
abbrev pub is_inline : Piece → Bool
is_inline p = p.class == BlockComment && not (list_any (λ c. c == 10) p.text)

-- an operand begins with the first token of these pieces
abbrev pub operand_follows : List Piece → Bool
operand_follows [] = false
operand_follows (p ∷ ps) = if is_comment p.class then operand_follows ps else begins_operand (role_of false p.class)

-- what the first token of these pieces does, or nothing
abbrev pub next_role : LayoutState → List Piece → Role
next_role state [] = beginning
next_role state (p ∷ ps) = if is_comment p.class then next_role state ps else role_in state p.class (operand_follows ps)

-- ---- the tokens ahead

-- What a token ahead does, and how it binds; how many brackets and blocks are open before it; the
-- columns
-- between the token before and it, and its own, if both are in one line; whether a line has to end
-- between
-- them; whether it opens a bracket that may be in lines of its own; and whether an item begins with
-- it,
-- after another, and whether it is after a line break of the author's.
pub record Ahead : Type 0 where
  pub role : Role
  pub binds : ℕ
  pub level : ℕ
  pub space : ℕ
  pub width : ℕ
  pub ends : Bool
  pub several : Bool
  pub item : Bool
  pub below : Bool

-- the columns of a comment in a line, with a space
abbrev pub comment_width : Layout → Piece → ℕ
comment_width layout p = if is_inline p then suc (column_after layout 0 p.text) else 0

-- the first of them with a comment before it
abbrev pub after_comment : Layout → Piece → List Ahead → List Ahead
after_comment layout p [] = []
after_comment layout p (t ∷ ts) = record t {
  space = t.space + comment_width layout p;
  ends = t.ends || not (is_inline p);
  below = t.below || not (p.line_ends == 0);
} ∷ ts

-- a bracket before these may be in lines of its own: it has two tokens at least, or a comment that
-- ends
-- a line
abbrev pub has_several : List Ahead → Bool
has_several (t ∷ u ∷ ts) = t.ends
    || (not (closes t.role) && (u.ends || not (closes u.role && u.level == t.level)))
has_several ts = false

-- a token after such a state, with those after it
abbrev pub token_ahead : Layout → LayoutState → Role → Piece → List Ahead → Ahead
token_ahead layout state right p after = record {
  role = right;
  binds = precedence right p.class;
  level = length state.opened;
  space = if closed_up state.last right then 0 else 1;
  width = column_after layout 0 p.text;
  ends = false;
  several = opens_bracket right && has_several after;
  item = is_between_items state.last right;
  below = not (p.line_ends == 0);
}

-- the tokens of pieces
abbrev pub tokens_ahead : Layout → LayoutState → List Piece → List Ahead
tokens_ahead layout state [] = []
tokens_ahead layout state (p ∷ ps) =
    if is_comment p.class then after_comment layout p (tokens_ahead layout state ps)
    else
    let right = role_in state p.class (operand_follows ps) in
    let after = tokens_ahead layout (after_token state 0 p.class right together) ps in
    token_ahead layout state right p after ∷ after

-- the first of them at the front of a line
abbrev pub at_front : List Ahead → List Ahead
at_front [] = []
at_front (t ∷ ts) = record t { space = 0; ends = false } ∷ ts

-- ---- what fits in a line

-- a line that ends at a column is not too long
abbrev pub is_within : Layout → ℕ → Bool
is_within layout column = layout.width == 0 || nat_le column layout.width

-- the columns of what comes after tokens in their line: none of a closing bracket, nor of an
-- operator
abbrev pub end_width : Ahead → ℕ
end_width t = if t.ends || (closes t.role || is t.role binary) then 0 else t.space + t.width

-- from a column on the tokens are in one line that is not too long, up to the first at which it
-- ends
abbrev pub fits : Layout → (Ahead → Bool) → ℕ → List Ahead → Bool
fits layout ends column [] = is_within layout column
fits layout ends column (t ∷ ts) =
    if ends t then is_within layout (column + end_width t)
    else not t.ends && fits layout ends (column + (t.space + t.width)) ts

-- nor where they have to be in one line whatever follows
abbrev pub never : Ahead → Bool
never t = false

-- ---- operands, with n brackets open

-- it is an operator that binds so strongly at most
abbrev pub binds_within : ℕ → Ahead → Bool
binds_within limit t = nat_lt 0 t.binds && nat_le t.binds limit

-- the operands of operators that bind stronger end with it
abbrev pub ends_chain : ℕ → ℕ → Ahead → Bool
ends_chain n limit t = t.level == n && (ends_operands t.role || binds_within limit t)

-- what follows a bracket in its line ends with it: their item, or a bracket opens that may be in
-- lines
-- of its own
abbrev pub ends_part : ℕ → ℕ → Ahead → Bool
ends_part n limit t = t.level == n && (ends_item t.role || (t.several || binds_within limit t))

-- an operator of this precedence is between them
abbrev pub has_operator : ℕ → ℕ → ℕ → List Ahead → Bool
has_operator n limit m ts = list_any (λ t. t.level == n && t.binds == m) (before_first (ends_chain n limit) ts)

-- the last of them, with the operator before it
abbrev pub last_operand : ℕ → ℕ → ℕ → List Ahead → List Ahead
last_operand n limit m [] = []
last_operand n limit m (t ∷ ts) = if has_operator n limit m ts then last_operand n limit m ts else t ∷ ts

-- up to the last of them outside brackets: where that is an opening bracket, they end with this
-- bracket
abbrev pub up_to_last : ℕ → List Ahead → List Ahead
up_to_last n [] = []
up_to_last n (t ∷ ts) = if list_any (λ u. u.level == n) (t ∷ ts) then t ∷ up_to_last n ts else []

-- the last one passes a test
abbrev pub last_passes : (Ahead → Bool) → List Ahead → Bool
last_passes test [] = false
last_passes test (t ∷ []) = test t
last_passes test (t ∷ ts) = last_passes test ts

-- ---- a bracket, with n brackets open in it

-- what is in it
abbrev pub content : ℕ → List Ahead → List Ahead
content n ts = before_first (λ t. t.level == n && closes t.role) ts

-- a token more at the front of the first line
abbrev pub in_first : Ahead → List (List Ahead) → List (List Ahead)
in_first t [] = (t ∷ []) ∷ []
in_first t (line ∷ lines) = (t ∷ line) ∷ lines

-- the lines of its content: those of the author's that begin with an item, also after a comment
abbrev pub lines : ℕ → List Ahead → List (List Ahead)
lines n [] = []
lines n (t ∷ ts) =
    if t.level == n && (t.item && (t.below || t.ends)) then [] ∷ in_first t (lines n ts)
    else in_first t (lines n ts)

-- a line is a row: it has two items at least
abbrev pub is_row : ℕ → List Ahead → Bool
is_row n [] = false
is_row n (t ∷ ts) = list_any (λ u. u.level == n && u.item) ts

-- it has two rows at least, which all fit in lines that begin at a column
abbrev pub keeps_rows : Layout → ℕ → ℕ → List Ahead → Bool
keeps_rows layout n column ts =
    let rows = filter (is_row n) (lines n (content n ts)) in
    nat_lt 1 (length rows) && list_all (λ row. fits layout never column (at_front row)) rows

-- its items are literals and names, with a sign or without
abbrev pub is_plain : Ahead → Bool
is_plain t = is_literal t.role || (is t.role comma || (is t.role minus || is t.role prefix))

-- it has so many of them that it is filled
abbrev pub is_table : ℕ → List Ahead → Bool
is_table n ts = list_all is_plain (content n ts) && nat_lt 15 (length (filter (λ t. is t.role comma) (content n ts)))
