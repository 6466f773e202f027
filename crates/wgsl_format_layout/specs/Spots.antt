-- Where a source is formatted, and the tokens that are read from there on.
use Rattle.std.specs.Prelude.{◌≡◌, ℕ, suc, ◌&&◌, ◌||◌, not, Bool, true, nat_le, List, [], ◌∷◌, ◌++◌, chars, drop, length}
use Rattle.std.specs.List.{list_all}
use Rattle.grammar.specs.Tokens.{Token}
use Rattle.wgsl_model_tidy.specs.Pieces.{Piece, pieces_from}
use Rattle.wgsl_model_tidy.specs.Roles.{Role, comma, is}
use Rattle.wgsl_model_tidy.specs.Layout as plain
use Rattle.wgsl_model_tidy.specs.Open.{LayoutState}
use Rattle.wgsl_model_tidy.specs.Ahead.{Ahead, fits, ends_part, last_passes, content, has_several}
use Rattle.wgsl_model_tidy.specs.LaidOut.{Spot, operands_with, style_with}
use Rattle.wgsl_format_layout.specs.Alike.{AreAlike}
use Rattle.wgsl_lexer.specs.TextTokens.{tokens_left}
use Rattle.wgsl_format_layout.specs.Gaps.{last_view}
use Rattle.wgsl_format_layout.specs.States.{state_view, taken}
use Rattle.wgsl_format_layout.specs.Left.{AreLeftFrom}
use Rattle.wgsl_format_layout.specs.Marks.{level_after}
use Rattle.wgsl_format_layout.specs.Reads.{AreRead}
use Rattle.wgsl_format_layout.specs.Reading.{ahead_left, last_end}
use Rattle.wgsl_format_layout.specs.Walks.{Follow}
use Rattle.wgsl_format_layout.specs.Windows.{AreClosed}
use Rattle.wgsl_format_layout.specs.Outputs.{IsAt, Goes}
use Rattle.wgsl_format_layout.specs.declared.marks.Mark.{Mark}
use Rattle.wgsl_format_layout.specs.declared.marks.MarkedToken.{MarkedToken}
use Rattle.wgsl_format_layout.specs.declared.marks.Marks.{Marks}
use Rattle.wgsl_format_layout.specs.declared.output.Output.{Output}

-- ---- what is decided

-- the spot where a text ends, with these tokens ahead; blocks are one, and so are brackets of a
-- style
abbrev pub spot_of : Output → List Ahead → Spot
spot_of o ts = record { state = state_view o.state; last = last_view o.last; column = o.text.line.column; ahead = ts }

-- it binds as one of the operators
abbrev pub is_known : Ahead → Bool
is_known t = nat_le t.binds 7

-- after a token at a place, with n brackets and blocks open before it
pub record IsPast (end : Mark) (place : ℕ) (tokens : List MarkedToken) (n : ℕ) (t : Ahead)
    (ts : List Ahead) : Type 0 where
  pub before : Mark
  pub here : Follow before place tokens n (t ∷ ts)
  pub follow : Follow end (suc place) tokens (level_after n t.role) ts
  pub known : list_all is_known ts ≡ true

-- a bracket is in lines of its own before which n are open, unless the author's rows stay
abbrev pub breaks : plain.Layout → ℕ → ℕ → ℕ → List Ahead → Bool
breaks layout n limit column ts = last_passes (λ t. is t.role comma) (content (suc n) ts)
    || (has_several ts && not (fits layout (ends_part n limit) column ts))

-- the state after a token that is written at the end of a line, with this one and others ahead; it
-- is
-- this to what follows it
abbrev pub state_past : plain.Layout → LayoutState → ℕ → Ahead → List Ahead → Role → LayoutState
state_past layout state column t ts last =
    let operands = operands_with layout state state.line column t.role (t ∷ ts) in
    taken (record state { operands = operands }) t.role t.binds last
    (style_with layout operands state.line column t.role (t ∷ ts))

-- ---- the tokens that are read

-- they are closed as far as there are any
abbrev pub AreClosedIfAny : List Ahead → List Ahead → Type 0
AreClosedIfAny [] far = Unit {0}
AreClosedIfAny (t ∷ ts) far = AreClosed (t ∷ ts) far

-- a source is formatted up to a spot: of the tokens that are read at once those from a place on are
-- next, after a byte offset, and then those that are left after such a state
pub record IsNext (source : List ℕ) (tokens : List MarkedToken) (place byte : ℕ) (o : Output)
    (spot : Spot) (marks : Marks) (after : LayoutState) : Type 0 where
  pub left : List Token
  pub state : LayoutState
  pub near : List Ahead
  pub level : ℕ
  pub is_at : IsAt o spot
  pub alike : AreAlike state spot.state
  pub ahead : spot.ahead ≡ near ++ ahead_left marks after
  pub follow : Follow o.end place tokens level near
  pub known : list_all is_known near ≡ true
  pub closed : AreClosedIfAny near (ahead_left marks after)
  pub places : AreLeftFrom source byte left
  pub read : AreRead source byte state left (drop place tokens) marks.byte after (tokens_left marks.left)
  pub stops : last_end o.end (drop place tokens) ≡ marks.end

-- the pieces that are left there
abbrev pub pieces_next : List ℕ → ℕ → List Token → List Piece
pieces_next source byte left = pieces_from (chars source) byte left

-- tokens and the comments before them are written, up to a place
pub record HasUpTo (source : List ℕ) (tokens : List MarkedToken) (byte : ℕ) (old : Output) (spot : Spot)
    (marks : Marks) (after : LayoutState) (left : List Token) (place to : ℕ) (new : Output) : Type 0 where
  pub next_spot : Spot
  pub is_next : IsNext source tokens place to new next_spot marks after
  pub layout : new.text.line.layout ≡ old.text.line.layout
  pub laid : Goes old spot (pieces_next source byte left) new next_spot (pieces_next source to is_next.left)

-- the next token and those comments are written, wherever the text is at such a spot
abbrev pub WritesNext : List ℕ → List MarkedToken → ℕ → ℕ → Output → Output → Type 0
WritesNext source tokens place byte old new = (spot : Spot) (marks : Marks) (after : LayoutState)
    → (n : IsNext source tokens place byte old spot marks after) → (m : MarkedToken) (ms : List MarkedToken)
    → drop place tokens ≡ m ∷ ms → HasUpTo source tokens byte old spot marks after n.left (suc place) m.span.end new

-- all tokens that are read at once are written
abbrev pub WritesAll : List ℕ → List MarkedToken → ℕ → Output → ℕ → Output → Type 0
WritesAll source tokens byte old to new = (spot : Spot) (marks : Marks) (after : LayoutState)
    → (n : IsNext source tokens 0 byte old spot marks after)
    → HasUpTo source tokens byte old spot marks after n.left (length tokens) to new
