-- Why a file was not read or written.
use Rattle.std.specs.Prelude.{◌≡◌, ℕ, false, List}
use Rattle.wgsl_files.specs.declared.store.StoreError.{StoreError}
use Rattle.wgsl_files.specs.declared.store.StoreError.TheVariants as store
use Rattle.wgsl_files.specs.Files.{Files, HasNone}

-- an error for this reason, unless an allocation failed
abbrev pub IsErrorFor : Type 0 → StoreError → Type 0
IsErrorFor reason store.OutOfMemory = Unit {0}
IsErrorFor reason (store.Failed e) = reason

-- there is no file at the path, unless an allocation failed
abbrev pub IsMissing : Files → List ℕ → StoreError → Type 0
IsMissing files path e = IsErrorFor (HasNone files path) e

-- contracts do not know what the store holds, unless an allocation failed
abbrev pub IsUnknown : Files → StoreError → Type 0
IsUnknown files e = IsErrorFor (files.known ≡ false) e
