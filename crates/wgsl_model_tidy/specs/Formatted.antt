-- The formatted text of a source: its byte order mark, if it has one, and the laid-out text of what
-- is after it, with the line ends that the layout asks for.
use Rattle.std.specs.Prelude.{ℕ, Bool, true, false, ◌&&◌, ◌==◌, if◌then◌else◌, List, [], ◌∷◌, ◌++◌}
use Rattle.grammar.specs.Tokens.{Token}
use Rattle.wgsl_model.specs.Tokens.Trivia.{first_or_zero}
use Rattle.wgsl_model_tidy.specs.Pieces.{pieces}
use Rattle.wgsl_model_tidy.specs.Layout.{Newlines, auto, lf, crlf, Layout}
use Rattle.wgsl_model_tidy.specs.LaidOut.{laid_out}

-- ---- the byte order mark

-- the mark that a text begins with, or nothing
abbrev pub mark_of : List ℕ → List ℕ
mark_of [] = []
mark_of (c ∷ cs) = if c == 0xFEFF then c ∷ [] else []

-- what is after it
abbrev pub unmarked : List ℕ → List ℕ
unmarked [] = []
unmarked (c ∷ cs) = if c == 0xFEFF then cs else c ∷ cs

-- ---- line ends

-- the first LF of a text is after CR
abbrev pub begins_crlf : List ℕ → Bool
begins_crlf [] = false
begins_crlf (c ∷ cs) = if c == 10 then false else if c == 13 && first_or_zero cs == 10 then true else begins_crlf cs

-- whether the lines of a formatted text end with CR LF, by what is chosen and by the source
abbrev pub ends_crlf : Newlines → List ℕ → Bool
ends_crlf auto source = begins_crlf source
ends_crlf lf source = false
ends_crlf crlf source = true

-- CR LF in place of each LF
abbrev pub with_crlf : List ℕ → List ℕ
with_crlf [] = []
with_crlf (c ∷ cs) = if c == 10 then 13 ∷ (10 ∷ with_crlf cs) else c ∷ with_crlf cs

-- the same or the text as it is
abbrev pub with_line_ends : Bool → List ℕ → List ℕ
with_line_ends ends text = if ends then with_crlf text else text

-- ---- the whole text

-- the formatted text of a source whose text after the mark has these tokens
abbrev pub formatted : Layout → List ℕ → List Token → List ℕ
formatted layout source ts = mark_of source
    ++ with_line_ends (ends_crlf layout.newlines (unmarked source)) (laid_out layout (pieces (unmarked source) ts))
