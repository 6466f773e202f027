-- What is reported of a text that nests deeper than a number of levels.
use Rattle.std.specs.Prelude.{◌≡◌, ◌⊎◌, ℕ, true, List, ◌++◌, codes, chars, Option, Some, None}
use Rattle.std.specs.Str.{is_utf8}
use Rattle.std.specs.Fmt.{decimal}
use Rattle.grammar.specs.Tokens.{Span, Token}
use Rattle.grammar.specs.Endings.{Ending}
use Rattle.wgsl_model.specs.Program.{ProcessOutput, complaint, Formats}
use Rattle.wgsl_model.specs.Tokens.TokenList.{IsTokenList}
use Rattle.wgsl_read_nesting.specs.Deeper.{IsFirstDeeper}
use Rattle.wgsl_report.specs.Messages.{reported}

-- a text nests deeper than a number of levels, and with the token at this span it first does
abbrev pub NestsDeeper : ℕ → List ℕ → Span → Type 0
NestsDeeper depth text span = (ts : List Token) × (e : Ending) × IsTokenList text ts e
    × IsFirstDeeper depth ts (Some span)

-- what is reported there
abbrev pub deeper_message : ℕ → List ℕ
deeper_message depth = codes "nests deeper than " ++ decimal depth ++ codes " levels"

-- this is reported of a text of the file of this name, at that token
abbrev pub IsDeeperInFile : ℕ → List ℕ → List ℕ → List ℕ → Type 0
IsDeeperInFile depth name text message = (span : Span) × NestsDeeper depth text span
    × (message ≡ reported name (deeper_message depth) text span)

-- this is due of a text that nests deeper: with its status, that and the place of the token
abbrev pub IsTooDeep : ℕ → List ℕ → ProcessOutput → Type 0
IsTooDeep depth text due = (span : Span) × NestsDeeper depth text span
    × (due ≡ complaint 3 (codes "chars " ++ decimal span.start ++ codes ".." ++ decimal span.end
    ++ codes ": " ++ deeper_message depth ++ codes "\n"))

-- What `wgslfmt` writes of bytes, which may nest a number of levels deep where there is a limit: as
-- without one, or that they nest deeper.
abbrev pub FormatsWithin : Option ℕ → List ℕ → ProcessOutput → Type 0
FormatsWithin None bytes due = Formats bytes due
FormatsWithin (Some depth) bytes due =
    Formats bytes due ⊎ ((is_utf8 bytes ≡ true) × IsTooDeep depth (chars bytes) due)
