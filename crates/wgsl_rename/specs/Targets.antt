-- Why no declaration has its name at a place.
use Rattle.std.specs.Prelude.{◌≡◌, ℕ, true, false}
use Rattle.std.specs.List.{list_any}
use Rattle.wgsl_resolve_names.specs.declared.whole.Names.{Names}
use Rattle.wgsl_rename.specs.declared.error.Refusal.TheVariants as refusal
use Rattle.wgsl_rename.specs.declared.error.RenameError.{RenameError}
use Rattle.wgsl_rename.specs.declared.error.RenameError.TheVariants.{Refused}
use Rattle.wgsl_rename.specs.Renames.{IsUndeclaredAt, is_at}

abbrev pub HasNoDeclaration : Names → ℕ → RenameError → Type 0
HasNoDeclaration names place (Refused refusal.NoName span) = list_any (is_at place) names.names.items ≡ false
HasNoDeclaration names place (Refused refusal.Member span) = IsUndeclaredAt names place true
HasNoDeclaration names place (Refused refusal.Outside span) = IsUndeclaredAt names place false
HasNoDeclaration names place other = ⊥
