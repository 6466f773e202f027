-- Why a name can't be written at some places.
use Rattle.std.specs.Prelude.{◌≡◌, List}
use Rattle.wgsl_error.specs.Kinds.{error_at}
use Rattle.wgsl_error.specs.declared.ParseError.TheVariants as parse
use Rattle.wgsl_model_places.specs.Roles.{Event}
use Rattle.wgsl_model_places.specs.Edited.{Edit}
use Rattle.wgsl_rename.specs.declared.error.Refusal.TheVariants as refusal
use Rattle.wgsl_rename.specs.declared.error.RenameError.{RenameError}
use Rattle.wgsl_rename.specs.declared.error.RenameError.TheVariants.{Fault, Refused}
use Rattle.wgsl_rename.specs.Renames.{KeepsReferents}

-- an allocation fails, or a use would refer to something else
abbrev pub IsLost : Edit → List Event → RenameError → Type 0
IsLost g es (Fault error) = error ≡ error_at parse.OutOfMemory 0 0
IsLost g es (Refused refusal.Captured span) = ¬ (KeepsReferents g es)
IsLost g es other = ⊥
