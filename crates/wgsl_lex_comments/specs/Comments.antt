-- What is known of the comments of a source.
use Rattle.std.specs.Prelude.{◌≡◌, ◌<◌, ⊤, ℕ, List, [], ◌∷◌, ◌++◌}
use Rattle.wgsl_model.specs.Tokens.Places.{width}
use Rattle.wgsl_model.specs.Tokens.Trivia.{after_trivia, outside, in_line, in_block, out_of_block}
use Rattle.wgsl_lex_comments.specs.declared.comments.Comment.{Comment}
use Rattle.wgsl_lex_comments.specs.declared.comments.Known.{Known}

-- a text ends the source and begins at a place
abbrev pub BeginsAt : List ℕ → ℕ → List ℕ → Type 0
BeginsAt source place text = (before : List ℕ) × (source ≡ before ++ text) × (place ≡ width before)

-- after the blank or the comment that begins a text there is this one: a line comment ends where
-- its line does, a block comment after the sign that closes it, in however many others it is
pub record Leaves (text over : List ℕ) : Type 0 where
  pub line : (body : List ℕ) → text ≡ 47 ∷ (47 ∷ body) → after_trivia outside over ≡ after_trivia in_line body
  pub block : (body : List ℕ) (n : ℕ) → text ≡ 47 ∷ (42 ∷ body)
      → after_trivia (out_of_block n) over ≡ after_trivia (in_block n) body
  pub left : after_trivia outside over ≡ after_trivia outside text

-- the comment that begins a text, by its places, after which and after the blank space and the
-- comments there a text is left
pub record IsCommentOf (source text rest : List ℕ) (comment : Comment) : Type 0 where
  pub over : List ℕ
  pub start : BeginsAt source comment.start text
  pub end : BeginsAt source comment.end over
  pub leaves : Leaves text over
  pub forward : comment.start < comment.end
  pub left : after_trivia outside over ≡ rest

-- the same with the place where that is left
abbrev pub IsKnownOf : List ℕ → List ℕ → Known → Type 0
IsKnownOf source text known = (rest : List ℕ) × BeginsAt source known.following rest
    × IsCommentOf source text rest known.comment

-- a comment of the source
abbrev pub IsKnown : List ℕ → Known → Type 0
IsKnown source known = (text : List ℕ) × IsKnownOf source text known

-- each of them is a comment of the source
abbrev pub AreComments : List ℕ → List Known → Type 0
AreComments source [] = ⊤
AreComments source (known ∷ others) = IsKnown source known × AreComments source others

-- each of them is a comment of the source after which this text is left
abbrev pub AreLeft : List ℕ → List ℕ → List Comment → Type 0
AreLeft source rest [] = ⊤
AreLeft source rest (comment ∷ comments) = ((text : List ℕ) × IsCommentOf source text rest comment)
    × AreLeft source rest comments
