use Rattle.std.proofs.Common.{◌≡◌, ℕ, List, chars, length}
use denote.Text.{Utf8}
use denote.Shadow.{shadow}
use Rattle.wgsl_model.specs.Tokens.Trivia.{outside}
use Rattle.wgsl_model_tidy.specs.Pieces.{Piece, comments}
use Rattle.wgsl_model_tidy.specs.LaidOut.{is_followed}
use Rattle.wgsl_format_layout.specs.Comments.{MayFollow}
use Rattle.wgsl_format_layout.proofs.comment.is_followed.Given as goal

abbrev pub invariant-pieces : goal.invariant-pieces
invariant-pieces l = record {
  text : shadow (Utf8 l.rest);
  follows : (following : ℕ → List Piece) → MayFollow following l.has_next
      → is_followed (comments following outside 0 (chars l.text))
      ≡ is_followed (comments following outside 0 (chars l.rest));
}

abbrev pub decreases-pieces : goal.decreases-pieces
decreases-pieces l = length l.rest
