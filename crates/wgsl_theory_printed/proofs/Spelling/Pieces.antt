-- Texts put together of words, blank space and the ends of template lists.
use Rattle.std.proofs.Common.{◌≡◌, ℕ, ◌==◌, true, false, refl, List, [], ◌∷◌, ◌++◌, ◌∙◌}
use Rattle.std.specs.Prelude.{codes}
use Rattle.std.specs.Str.{IsUtf8, chars}
use Rattle.wgsl_model.specs.Tokens.Characters.{is_blank}
use Rattle.wgsl_model.specs.Tokens.ClassTable.{SymLessThan, TemplateArgsStart, TemplateArgsEnd}
use Rattle.wgsl_model.specs.Tokens.Kind.{Kind, plain}
use Rattle.wgsl_model.specs.Tokens.Raw.{Raw.token, raw, raw_at}
use Rattle.wgsl_model.specs.Tokens.Trivia.{after_trivia}
use Rattle.wgsl_theory_templates.proofs.Reaching.Reach.{Role, template_start, template_end, role}

-- a space, a line break, a word with its bytes and its kind, and the `<` and the `>` of a template
-- list
pub data Piece : Type 0 where
  space line_end opens closes : Piece
  word : List ℕ → Kind → Piece

-- the bytes of pieces
abbrev pub bytes_of : List Piece → List ℕ
bytes_of [] = []
bytes_of (space ∷ ps) = 32 ∷ bytes_of ps
bytes_of (line_end ∷ ps) = 10 ∷ bytes_of ps
bytes_of (opens ∷ ps) = 60 ∷ bytes_of ps
bytes_of (closes ∷ ps) = 62 ∷ bytes_of ps
bytes_of (word w k ∷ ps) = w ++ bytes_of ps

-- their characters
abbrev pub render : List Piece → List ℕ
render [] = []
render (space ∷ ps) = 32 ∷ render ps
render (line_end ∷ ps) = 10 ∷ render ps
render (opens ∷ ps) = 60 ∷ render ps
render (closes ∷ ps) = 62 ∷ render ps
render (word w k ∷ ps) = chars w ++ render ps

-- the kinds of the tokens
abbrev pub kinds : List Piece → List Kind
kinds [] = []
kinds (space ∷ ps) = kinds ps
kinds (line_end ∷ ps) = kinds ps
kinds (opens ∷ ps) = plain TemplateArgsStart ∷ kinds ps
kinds (closes ∷ ps) = plain TemplateArgsEnd ∷ kinds ps
kinds (word w k ∷ ps) = k ∷ kinds ps

-- the kind is no end of a template list
abbrev pub IsOrdinaryRole : Role → Type 0
IsOrdinaryRole template_start = ⊥
IsOrdinaryRole template_end = ⊥
IsOrdinaryRole r = Unit {0}

abbrev pub IsOrdinary : Kind → Type 0
IsOrdinary k = IsOrdinaryRole (role k.class)

-- characters before a rest are the token at the front
abbrev pub Stands : List ℕ → Kind → List ℕ → Type 0
Stands w k rest = raw (w ++ rest) ≡ token k (w ++ rest) rest

-- no byte is a line break
abbrev pub OnOneLine : List ℕ → Type 0
OnOneLine [] = Unit {0}
OnOneLine (b ∷ bs) = ((b == 10) ≡ false) × OnOneLine bs

-- a word of UTF-8 on one line is the token at the front before a rest
pub record FitsBefore (w : List ℕ) (k : Kind) (rest : List ℕ) : Type 0 where
  pub ordinary : IsOrdinary k
  pub stands : Stands (chars w) k rest
  pub utf8 : IsUtf8 w
  pub on_one_line : OnOneLine w

-- each word is the token at the front of what is left, and the `<` of each template list is a token
-- of its own; the `>` may begin a longer token
abbrev pub Fits : List Piece → Type 0
Fits [] = Unit {0}
Fits (space ∷ ps) = Fits ps
Fits (line_end ∷ ps) = Fits ps
Fits (opens ∷ ps) = Stands (codes "<") (plain SymLessThan) (render ps) × Fits ps
Fits (closes ∷ ps) = Fits ps
Fits (word w k ∷ ps) = FitsBefore w k (render ps) × Fits ps

-- blank space is passed over
pub raw_blank : (c : ℕ) (cs : List ℕ) → is_blank c ≡ true → raw (c ∷ cs) ≡ raw cs
unfolding after_trivia
raw_blank c cs h = rw h refl

-- a character that is no blank space and begins no comment begins a token
raw_here : (c : ℕ) (cs : List ℕ) → is_blank c ≡ false → (c == 47) ≡ false → raw (c ∷ cs) ≡ raw_at (c ∷ cs)
unfolding after_trivia
raw_here c cs h k = rw (h, k) refl

-- a word begins with no blank space and no comment
abbrev pub Begins : List ℕ → Type 0
Begins [] = ⊥
Begins (c ∷ cs) = (is_blank c ≡ false) × ((c == 47) ≡ false)

pub stands : (w : List ℕ) (k : Kind) (rest : List ℕ) → Begins w
    → raw_at (w ++ rest) ≡ token k (w ++ rest) rest → Stands w k rest
stands [] k rest b h = absurd b
stands (c ∷ cs) k rest b h = raw_here c (cs ++ rest) b.0 b.1 ∙ h
