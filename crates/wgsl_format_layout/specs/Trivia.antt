-- What is known of the blank space and the comments before a token.
use Rattle.std.specs.Prelude.{◌≡◌, ℕ, ◌+◌, ◌==◌, ◌||◌, not, true, false, List, ◌∷◌}
use Rattle.wgsl_model.specs.Tokens.Trivia.{outside}
use Rattle.wgsl_model_tidy.specs.Pieces.{Piece, comments}
use Rattle.wgsl_model_tidy.specs.Layout.{Layout}
use Rattle.wgsl_model_tidy.specs.Open.{LayoutState}
use Rattle.wgsl_model_tidy.specs.Ahead.{Ahead, is_inline, comment_width, tokens_ahead}
use Rattle.wgsl_format_layout.specs.declared.marks.Trivia.{Trivia}

-- nothing
abbrev pub no_trivia : Trivia
no_trivia = record { line_ends = 0; has_comment = false; width = 0; ends = false; below = false }

-- a comment is passed, after the line breaks that were directly before it
pub record HasPassed (old : Trivia) (layout : Layout) (p : Piece) (new : Trivia) : Type 0 where
  pub line_ends : new.line_ends ≡ 0
  pub has_comment : new.has_comment ≡ true
  pub width : new.width ≡ old.width + comment_width layout p
  pub ends : new.ends ≡ (old.ends || not (is_inline p))
  pub below : new.below ≡ (old.below || not (old.line_ends == 0))

-- a token ahead, with so many line breaks directly before it
abbrev pub with_line_ends : ℕ → Ahead → Ahead
with_line_ends n t = record t { below = not (n == 0) }

-- a token ahead that is after these
abbrev pub with_trivia : Trivia → Ahead → Ahead
with_trivia v t = record t { space = t.space + v.width; ends = t.ends || v.ends; below = v.below }

-- a text of blank space and comments is this before a token
pub record IsTrivia (layout : Layout) (text : List ℕ) (v : Trivia) : Type 0 where
  pub ahead : (state : LayoutState) (following : ℕ → List Piece) (t : Ahead) (ts : List Ahead)
      → ((n : ℕ) → tokens_ahead layout state (following n) ≡ with_line_ends n t ∷ ts)
      → tokens_ahead layout state (comments following outside 0 text) ≡ with_trivia v t ∷ ts
  pub plain : v.has_comment ≡ false → (following : ℕ → List Piece)
      → comments following outside 0 text ≡ following v.line_ends
