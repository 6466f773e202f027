-- What is returned of a text in which a declaration is renamed.
use Rattle.std.specs.Prelude.{◌⊎◌, ℕ, List}
use Rattle.grammar.specs.Tokens.{Token}
use Rattle.grammar.specs.Grammar.{IsSentence}
use Rattle.grammar.specs.Endings.{Ending.finished}
use Rattle.wgsl_model.specs.Grammar.Symbols.{Symbol.unit}
use Rattle.wgsl_model.specs.Grammar.Written.{written}
use Rattle.wgsl_model.specs.Tokens.TokenList.{IsTokenList}
use Rattle.wgsl_model_places.specs.Steps.{events}
use Rattle.wgsl_model_tidy.specs.Syntax.{IsSyntaxFaultOf}
use Rattle.wgsl_error.specs.View.{fault_view}
use Rattle.wgsl_span.specs.declared.Span.{Span}
use Rattle.wgsl_read_cursor.specs.Answers.{IsOutOfMemory}
use Rattle.wgsl_rename.specs.declared.error.RenameError.{RenameError}
use Rattle.wgsl_rename.specs.declared.error.RenameError.TheVariants.{Fault, Refused}
use Rattle.wgsl_rename.specs.Renames.{IsRefused, IsRenaming}

-- the text has the syntax of a module, in which these places are those of a declaration that is
-- renamed
abbrev pub IsRenamingOf : List ℕ → ℕ → List ℕ → List Span → Type 0
IsRenamingOf source place new places = (ts : List Token) × IsTokenList source ts finished × IsSentence written unit ts
    × IsRenaming (events ts) place new places

-- an allocation fails, the text has a fault, or something is in the way of the new name
abbrev pub IsRefusedOf : List ℕ → ℕ → List ℕ → RenameError → Type 0
IsRefusedOf source place new (Fault e) = IsOutOfMemory e ⊎ IsSyntaxFaultOf source (fault_view e)
IsRefusedOf source place new (Refused reason span) = (ts : List Token) × IsTokenList source ts finished
    × IsSentence written unit ts × IsRefused (events ts) place new (Refused reason span)
