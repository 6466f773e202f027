-- A text that is formatted up to a place, as the definitions see it.
use Rattle.std.specs.Prelude.{◌≡◌, ℕ, Bool, true, false, List, [], ◌∷◌, ◌++◌, chars, string_bytes, map}
use Rattle.wgsl_model.specs.Tokens.Trivia.{outside}
use Rattle.wgsl_model_tidy.specs.Pieces.{Piece, comments}
use Rattle.wgsl_model_tidy.specs.Roles.{Role}
use Rattle.wgsl_model_tidy.specs.Joints.{Joint}
use Rattle.wgsl_model_tidy.specs.Layout as plain
use Rattle.wgsl_model_tidy.specs.Open.{Open, block, members, arguments, bracket, LayoutState}
use Rattle.wgsl_model_tidy.specs.Ahead.{next_role}
use Rattle.wgsl_model_tidy.specs.LaidOut.{Gap, Spot, is_line, is_token, laid_from, owned, between, before_next, gap_text, gap_before_token, depth_after}
use Rattle.wgsl_format_layout.specs.States.{state_view}
use Rattle.wgsl_format_layout.specs.Gaps.{last_view}
use Rattle.wgsl_format_layout.specs.Comments.{MayFollow}
use Rattle.wgsl_format_layout.specs.Layouts.{layout_view}
use Rattle.wgsl_format_layout.specs.Lines.{Adds}
use Rattle.wgsl_format_layout.specs.declared.output.Output.{Output}

abbrev pub layout_of : Output → plain.Layout
layout_of o = layout_view o.text.line.layout

-- ---- where it ends

-- blocks are one, and so are brackets of a style
abbrev pub forgotten : Open → Open
forgotten block = block
forgotten members = block
forgotten (arguments style) = bracket style
forgotten (bracket style) = bracket style

abbrev pub forgotten_at : Open × ℕ → Open × ℕ
forgotten_at (kind, depth) = (forgotten kind, depth)

abbrev pub forgotten_in : LayoutState → LayoutState
forgotten_in state = record state { opened = map forgotten_at state.opened; structure = false }

-- a text ends at a spot, with this state
pub record IsIn (o : Output) (spot : Spot) (known : LayoutState) : Type 0 where
  pub state : state_view o.state ≡ forgotten_in known
  pub last : last_view o.last ≡ spot.last
  pub column : o.text.line.column ≡ spot.column

abbrev pub IsAt : Output → Spot → Type 0
IsAt o spot = IsIn o spot spot.state

-- the same, where the operands that end before the next token have ended
abbrev pub IsBefore : Output → Spot → Role → Type 0
IsBefore o spot right = IsIn o spot (before_next spot right)

-- ---- comments

-- what is written before these pieces is written with them after the spots
abbrev pub Goes : Output → Spot → List Piece → Output → Spot → List Piece → Type 0
Goes old spot ps new after qs = chars (string_bytes old.text.string) ++ laid_from (layout_of old) spot ps
    ≡ chars (string_bytes new.text.string) ++ laid_from (layout_of old) after qs

-- comments are written before a token of this role: a spot and pieces from there on, before and
-- after
pub record HasComments (old : Output) (spot : Spot) (ps : List Piece) (right : Role)
    (new : Output) (after : Spot) (qs : List Piece) : Type 0 where
  pub is_before : IsBefore new after right
  pub state : after.state ≡ record spot.state { line = after.state.line }
  pub ahead : after.ahead ≡ spot.ahead
  -- none is written
  pub none : is_token after.last ≡ true → after ≡ spot
  pub layout : new.text.line.layout ≡ old.text.line.layout
  pub laid : Goes old spot ps new after qs

-- a comment is written, before pieces of which the first token is of this role and owns it or does
-- not
abbrev pub WritesComment : Output → Piece → Role → Bool → Output → Type 0
WritesComment old p right own new = (spot : Spot) (ps : List Piece) → IsBefore old spot right
    → next_role spot.state ps ≡ right → owned (layout_of old) spot right ps ≡ own
    → (after : Spot) × HasComments old spot (p ∷ ps) right new after ps

-- the comments of a text are written, with so many line breaks after the last one, before pieces of
-- which the first token is of this role, or before none; this is between it and the last token
abbrev pub WritesComments : Output → List ℕ → Joint → Role → Bool → ℕ → Output → Type 0
WritesComments old text joint right has_next n new = (spot : Spot) (following : ℕ → List Piece)
    → IsBefore old spot right → ((m : ℕ) → next_role spot.state (following m) ≡ right)
    → MayFollow following has_next → (has_next ≡ false → (m : ℕ) → following m ≡ [])
    → (has_next ≡ true → is_token spot.last ≡ true → is_line (between (layout_of old) spot right) ≡ is_line joint)
    → (after : Spot) × HasComments old spot (comments following outside 0 text) right new after (following n)

-- ---- a token

-- a token is written after a gap, and nothing else is known of it yet
pub record HasToken (old : Output) (gap : Gap) (text : List ℕ) (new : Output) : Type 0 where
  pub adds : Adds old.text (gap_text (layout_of old) gap ++ text) new.text
  pub state : state_view new.state
      ≡ record (state_view old.state) { line = depth_after gap (state_view old.state).line }
  pub last : new.last ≡ old.last

-- it is, where it is known what is between it and the last one
abbrev pub WritesToken : Output → Joint → Role → ℕ → List ℕ → Output → Type 0
WritesToken old joint right n text new = (spot : Spot) → IsBefore old spot right
    → between (layout_of old) spot right ≡ joint
    → HasToken old (gap_before_token (layout_of old) spot right n) text new
