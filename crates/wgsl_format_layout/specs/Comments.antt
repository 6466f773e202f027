-- What is known of a comment at the front of a text.
use Rattle.std.specs.Prelude.{◌≡◌, ℕ, ◌+◌, ◌&&◌, ◌==◌, Bool, List, ◌∷◌, chars}
use Rattle.wgsl_model.specs.Tokens.Trivia.{outside}
use Rattle.wgsl_model_tidy.specs.Pieces.{Piece, comments, line_ends_at}
use Rattle.wgsl_model_tidy.specs.LaidOut.{is_followed}
use Rattle.wgsl_theory_tidy.proofs.Comments.{piece}
use Rattle.wgsl_format_layout.specs.Gaps.{comment_class}
use Rattle.wgsl_format_layout.specs.declared.comment.Comment.{Comment}

-- a text begins with a comment
abbrev pub IsComment : List ℕ → Comment → Type 0
IsComment text comment = (b : ℕ → List Piece) (n : ℕ)
    → comments b outside n text ≡ piece (comment_class comment.kind) (chars comment.text.now) n
    ∷ comments b outside 0 (chars comment.rest.now)

-- it begins with none
abbrev pub IsNone : List ℕ → Type 0
IsNone text = (b : ℕ → List Piece) (n c : ℕ) (cs : List ℕ) → text ≡ c ∷ cs
    → comments b outside n text ≡ comments b outside (n + line_ends_at c cs) cs

-- pieces after m line breaks: a token follows in the line exactly where m is 0 and there is a next
-- token
abbrev pub MayFollow : (ℕ → List Piece) → Bool → Type 0
MayFollow following has_next = (m : ℕ) → is_followed (following m) ≡ (m == 0 && has_next)

-- whether a token follows in the line, after a text of blank space and comments
abbrev pub Follows : List ℕ → Bool → Bool → Type 0
Follows text has_next result = (following : ℕ → List Piece) → MayFollow following has_next
    → is_followed (comments following outside 0 text) ≡ result
