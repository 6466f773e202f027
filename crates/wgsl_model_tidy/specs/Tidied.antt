-- What the program that formats owes: its status, and what it writes of the bytes that it read.
use Rattle.std.specs.Prelude.{◌≡◌, ℕ, true, false, List, [], ◌++◌, chars, codes}
use Rattle.std.specs.Str.{is_utf8}
use Rattle.grammar.specs.Tokens.{Fault}
use Rattle.wgsl_model.specs.Program.{ProcessOutput, complaint, shown_fault}
use Rattle.wgsl_model_tidy.specs.Layout.{standard}
use Rattle.wgsl_model_tidy.specs.Formatted.{unmarked}
use Rattle.wgsl_model_tidy.specs.Kept.{IsFormatted, Keeps}
use Rattle.wgsl_model_tidy.specs.Syntax.{IsModuleInSyntax, IsFaultAfterMark}

-- The text is the formatted text of a source that is a module by its syntax, after a byte order
-- mark or without one, and keeps what the source has.
pub record IsTidyTextOf (source text : List ℕ) : Type 0 where
  pub accepted : IsModuleInSyntax (unmarked source)
  pub formatted : IsFormatted standard source text
  pub kept : Keeps standard source text

-- What the program writes of these bytes: of a module by its syntax its formatted text, else the
-- fault that is named, or that they are no text.
pub data Tidies (bytes : List ℕ) : ProcessOutput → Type 0 where
  tidied : (text : List ℕ) → is_utf8 bytes ≡ true → is_utf8 text ≡ true
      → IsTidyTextOf (chars bytes) (chars text)
      → Tidies bytes (record { status = 0; output = text; errors = [] })
  refused : (x : Fault) → is_utf8 bytes ≡ true → IsFaultAfterMark (chars bytes) x
      → Tidies bytes (complaint 1 (shown_fault x ++ codes "\n"))
  not_utf8 : is_utf8 bytes ≡ false → Tidies bytes (complaint 2 (codes "input is not UTF-8\n"))
