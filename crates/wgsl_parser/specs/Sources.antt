-- What is returned for a text where one of the symbols is wanted that are read by themselves.
use Rattle.std.specs.Prelude.{◌⊎◌, ℕ, List, chars, length, Result, IfOk, IfErr}
use Rattle.wgsl_model.specs.Grammar.Symbols.{Symbol}
use Rattle.wgsl_model.specs.SourceTrees.{IsFaultIn}
use Rattle.wgsl_error.specs.declared.Error.{Error}
use Rattle.wgsl_error.specs.View.{fault_view}
use Rattle.wgsl_read_cursor.specs.Answers.{IsOutOfMemory}
use Rattle.wgsl_read_cursor.specs.Places.{StandsWithin}

-- What is returned for a source: Ok only with what it is; else that an allocation failed, or the
-- fault that is named; either is in the text or ends one byte past it.
pub record IsRead {X : Type 0} (n : Symbol) (accepts : X → Type 0) (source : List ℕ)
    (result : Result X Error) : Type 0 where
  pub accepted : IfOk result accepts
  pub refused : IfErr result (λ e. IsOutOfMemory e ⊎ IsFaultIn n (chars source) (fault_view e))
  pub placed : IfErr result (λ e. StandsWithin e.span (length source))
