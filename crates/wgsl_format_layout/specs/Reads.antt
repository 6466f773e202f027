-- The tokens of a source that are read one after the other, and what is known of each.
use Rattle.std.specs.Prelude.{◌≡◌, ℕ, true, false, List, [], ◌∷◌, slice_range, chars}
use Rattle.std.specs.List.{list_all}
use Rattle.grammar.specs.Tokens.{Token}
use Rattle.wgsl_model.specs.Tokens.Trivia.{outside}
use Rattle.wgsl_model_tidy.specs.Pieces.{Piece, comments, between, pieces_from}
use Rattle.wgsl_model_tidy.specs.Roles.{Role, precedence}
use Rattle.wgsl_model_tidy.specs.Open.{together, LayoutState, role_in, last_after, after_token}
use Rattle.wgsl_model_tidy.specs.Ahead.{operand_follows}
use Rattle.wgsl_format_layout.specs.View.{role_view}
use Rattle.wgsl_format_layout.specs.Lines.{is_printable}
use Rattle.wgsl_format_layout.specs.declared.marks.MarkedToken.{MarkedToken}

-- what a token does, with others after it
abbrev pub role_before : List ℕ → LayoutState → Token → List Token → Role
role_before source state t ts = role_in state t.class (operand_follows (pieces_from (chars source) t.end ts))

-- a token of a source is read after a byte offset and a state, with others after it
pub record IsRead (source : List ℕ) (from : ℕ) (state : LayoutState) (t : Token) (ts : List Token)
    (m : MarkedToken) : Type 0 where
  pub start : m.span.start ≡ t.start
  pub stop : m.span.end ≡ t.end
  pub role : role_view m.role ≡ role_before source state t ts
  pub last : role_view m.last ≡ last_after state (role_view m.role)
  pub binds : m.binds ≡ precedence (role_view m.role) t.class
  pub line_ends : m.before.has_comment ≡ false → (following : ℕ → List Piece)
      → comments following outside 0 (between (chars source) from t.start) ≡ following m.before.line_ends
  pub printable : m.is_printable ≡ true → list_all is_printable (slice_range source t.start t.end) ≡ true

-- tokens are read from a byte offset and a state on up to others; the last three are what is left
abbrev pub AreRead : List ℕ → ℕ → LayoutState → List Token → List MarkedToken → ℕ → LayoutState → List Token → Type 0
AreRead source from state ts [] to after left = (to ≡ from) × (after ≡ state) × (left ≡ ts)
AreRead source from state [] (m ∷ ms) to after left = ⊥
AreRead source from state (t ∷ ts) (m ∷ ms) to after left = IsRead source from state t ts m
    × AreRead source t.end (after_token state 0 t.class (role_view m.role) together) ts ms to after left
