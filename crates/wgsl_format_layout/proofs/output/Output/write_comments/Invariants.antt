use Rattle.std.proofs.Common.{◌≡◌, ◌≤◌, ◌+◌, ℕ, true, false, List, [], chars, length}
use denote.Text.{Utf8}
use denote.Shadow.{shadow}
use Rattle.wgsl_model.specs.Tokens.Trivia.{outside}
use Rattle.wgsl_model_tidy.specs.Pieces.{Piece, comments}
use Rattle.wgsl_model_tidy.specs.Ahead.{next_role}
use Rattle.wgsl_model_tidy.specs.LaidOut.{Spot, is_token, is_line, between}
use Rattle.wgsl_format_layout.specs.View.{role_view, joint_view}
use Rattle.wgsl_format_layout.specs.Comments.{MayFollow}
use Rattle.wgsl_format_layout.specs.Outputs.{layout_of, IsBefore, HasComments}
use Rattle.wgsl_format_layout.proofs.output.Output.write_comments.Given as goal

abbrev pub invariant-pieces : goal.invariant-pieces
invariant-pieces l = record {
  text : shadow (Utf8 l.rest);
  laid : (spot : Spot) (following : ℕ → List Piece) → IsBefore l.fn.self spot (role_view l.right)
      → ((m : ℕ) → next_role spot.state (following m) ≡ role_view l.right) → MayFollow following l.has_next
      → (l.has_next ≡ false → (m : ℕ) → following m ≡ [])
      → (l.has_next ≡ true → is_token spot.last ≡ true
      → is_line (between (layout_of l.fn.self) spot (role_view l.right)) ≡ is_line (joint_view l.joint))
      → (after : Spot) × HasComments l.fn.self spot (comments following outside 0 (chars l.text)) (role_view l.right)
      l.self after (comments following outside l.line_ends (chars l.rest));
  within : l.line_ends + length l.rest ≤ length l.text;
}

abbrev pub decreases-pieces : goal.decreases-pieces
decreases-pieces l = length l.rest
