-- What pieces have, where one may be an earlier stretch of them.
use Rattle.std.specs.Prelude.{◌≡◌, ℕ, suc, Bool, true, ◌&&◌, nat_le, List, [], ◌∷◌, ◌++◌, take, drop}
use Rattle.std.specs.List.{concat}
use Rattle.wgsl_lex_token.specs.View.{class_of_kind}
use Rattle.wgsl_lex_templates.specs.declared.kept.Piece.{Piece}
use Rattle.wgsl_lex_templates.specs.declared.kept.Piece.TheVariants.{Token, Stretch}

-- all classes from one place up to another, where each place has some
abbrev pub values_between : List (List ℕ) → ℕ → ℕ → List ℕ
values_between values start end = concat (drop start (take end values))

-- the classes that a piece has, where those of each piece before it are known
abbrev pub value : List (List ℕ) → Piece → List ℕ
value before (Token kind) = class_of_kind kind ∷ []
value before (Stretch start end) = values_between before start end

-- those of each piece, where those of each piece before them are known
abbrev pub values_after : List (List ℕ) → List Piece → List (List ℕ)
values_after before [] = []
values_after before (piece ∷ pieces) = value before piece ∷ values_after (before ++ value before piece ∷ []) pieces

-- all classes of the pieces from one place up to another
abbrev pub held : List Piece → ℕ → ℕ → List ℕ
held pieces start end = values_between (values_after [] pieces) start end

-- a piece at a place is not a stretch of pieces from there on
abbrev pub is_earlier : ℕ → Piece → Bool
is_earlier place (Token kind) = true
is_earlier place (Stretch start end) = nat_le end place

-- this holds of each piece from a place on
abbrev pub are_earlier : ℕ → List Piece → Bool
are_earlier place [] = true
are_earlier place (piece ∷ pieces) = is_earlier place piece && are_earlier (suc place) pieces

-- pieces that begin with others
abbrev pub BeginWith : List Piece → List Piece → Type 0
BeginWith first pieces = (more : List Piece) × (pieces ≡ first ++ more)
