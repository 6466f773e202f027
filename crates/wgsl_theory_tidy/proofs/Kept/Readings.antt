-- How a text is read: the blank space and comments before each token, the token's characters, and
-- the pieces that this makes.
use Rattle.std.proofs.Common.{◌≡◌, ℕ, false, List, [], ◌∷◌, ◌++◌}
use Rattle.wgsl_model.specs.Tokens.ClassTable.{SymForwardSlash, SymDivisionEqual, TemplateArgsStart, TemplateArgsEnd}
use Rattle.wgsl_model.specs.Tokens.Kind.{Kind, plain}
use Rattle.wgsl_model.specs.Tokens.Raw.{Raw.token, raw}
use Rattle.wgsl_model.specs.Tokens.Trivia.{outside, after_trivia}
use Rattle.wgsl_theory_templates.proofs.Reaching.Reach.{role}
use Rattle.wgsl_theory_templates.proofs.Lexed.RoleClasses.{is_mark_role}
use Rattle.wgsl_theory_printed.proofs.Spelling.Spellings.{IsSpelling}
use Rattle.wgsl_model_tidy.specs.Pieces.{Piece, comments}

-- the characters of a token of a kind, before a rest: a spelling that is the front token there, `/`
-- or `/=`, with whose first character a comment may begin too, or the `<` or the `>` of a template
-- list
pub data IsToken : Kind → List ℕ → List ℕ → Type 0 where
  is_word : (k : Kind) (w rest : List ℕ) → is_mark_role (role k.class) ≡ false → IsSpelling k w
      → raw (w ++ rest) ≡ token k (w ++ rest) rest → IsToken k w rest
  is_slash : (rest : List ℕ) → raw (47 ∷ rest) ≡ token (plain SymForwardSlash) (47 ∷ rest) rest
      → IsToken (plain SymForwardSlash) (47 ∷ []) rest
  is_slash_equal : (rest : List ℕ)
      → raw (47 ∷ (61 ∷ rest)) ≡ token (plain SymDivisionEqual) (47 ∷ (61 ∷ rest)) rest
      → IsToken (plain SymDivisionEqual) (47 ∷ (61 ∷ [])) rest
  is_start : (rest : List ℕ) → IsToken (plain TemplateArgsStart) (60 ∷ []) rest
  is_end : (rest : List ℕ) → IsToken (plain TemplateArgsEnd) (62 ∷ []) rest

-- a token as a piece
abbrev pub token_piece : Kind → List ℕ → ℕ → Piece
token_piece k w n = record { class = k.class; text = w; line_ends = n }

-- a text has tokens of these kinds and these pieces
pub data Reads : List ℕ → List Kind → List Piece → Type 0 where
  reads_end : (text : List ℕ) → after_trivia outside text ≡ [] → Reads text [] (comments (λ n. []) outside 0 text)
  reads_token : (trivia w rest : List ℕ) (k : Kind) (ks : List Kind) (ps : List Piece)
      → after_trivia outside (trivia ++ (w ++ rest)) ≡ w ++ rest → IsToken k w rest → Reads rest ks ps
      → Reads (trivia ++ (w ++ rest)) (k ∷ ks) (comments (λ n. token_piece k w n ∷ ps) outside 0 trivia)
