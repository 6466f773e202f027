-- The last line of a text that is written.
use Rattle.std.specs.Prelude.{◌≡◌, ◌+◌, ℕ, Bool, List, [], ◌++◌, ◌&&◌, nat_le, chars, string_bytes}
use Rattle.wgsl_model_tidy.specs.Layout.{column_after}
use Rattle.wgsl_format_layout.specs.Layouts.{layout_view}
use Rattle.wgsl_format_layout.specs.declared.layout.Layout.{Layout}
use Rattle.wgsl_format_layout.specs.declared.line.Line.{Line}
use Rattle.wgsl_format_layout.specs.declared.text.Text.{Text}

-- a character is a printable one of ASCII
abbrev pub is_printable : ℕ → Bool
is_printable c = nat_le 32 c && nat_le c 126

-- a line goes on by a number of columns
pub record MovesOn (old : Line) (columns : ℕ) (new : Line) : Type 0 where
  pub layout : new.layout ≡ old.layout
  pub column : new.column ≡ old.column + columns

-- a line goes over a text
pub record Passes (old : Line) (text : List ℕ) (new : Line) : Type 0 where
  pub layout : new.layout ≡ old.layout
  pub column : new.column ≡ column_after (layout_view old.layout) old.column text

-- a piece is added to a text
pub record Adds (old : Text) (piece : List ℕ) (new : Text) : Type 0 where
  pub written : chars (string_bytes new.string) ≡ chars (string_bytes old.string) ++ piece
  pub line : Passes old.line piece new.line

-- nothing is written
pub record IsEmpty (layout : Layout) (text : Text) : Type 0 where
  pub nothing : chars (string_bytes text.string) ≡ []
  pub chosen : text.line.layout ≡ layout
  pub column : text.line.column ≡ 0
