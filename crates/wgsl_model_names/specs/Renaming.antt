-- When renaming keeps what each use of a module refers to.
use Rattle.std.specs.Prelude.{◌≡◌, ℕ, List, map}
use Rattle.std.specs.List.{Contains}
use Rattle.wgsl_model.specs.Trees.NamedValues.{AddressSpace, AccessMode, address_space_text, access_mode_text}
use Rattle.wgsl_model.specs.Trees.Units.{TranslationUnit}
use Rattle.wgsl_model_names.specs.Scopes.{Referent, declaration, outside, IsOutside, spelled, unknown_names}
use Rattle.wgsl_model_names.specs.Names.{unit_names}
use Rattle.wgsl_model_names.specs.Renamed.{Renaming}

-- a referent after a renaming: a declaration stays, and what is outside is by its new name
abbrev pub renamed_referent : Renaming → Referent → Referent
renamed_referent f (declaration n) = declaration n
renamed_referent f (outside x) = outside (f x)

abbrev pub renamed_referents : Renaming → List (List Referent) → List (List Referent)
renamed_referents f = map (map (renamed_referent f))

-- no two of these names get one name
abbrev pub IsInjectiveOn : List (List ℕ) → Renaming → Type 0
IsInjectiveOn names f = (x y : List ℕ) → Contains names x → Contains names y → f x ≡ f y → x ≡ y

-- address spaces and access modes keep their names
pub record FixesWords (f : Renaming) : Type 0 where
  pub spaces : (space : AddressSpace) → f (address_space_text space) ≡ address_space_text space
  pub modes : (mode : AccessMode) → f (access_mode_text mode) ≡ access_mode_text mode

-- each of these names stays
abbrev pub FixesAll : List (List ℕ) → Renaming → Type 0
FixesAll names f = (x : List ℕ) → Contains names x → f x ≡ x

-- a renaming of the module: no two of its names get one name, and address spaces, access modes and
-- names of which it is not known what they refer to keep theirs
pub record IsRenamingOf (u : TranslationUnit) (f : Renaming) : Type 0 where
  pub injective : IsInjectiveOn (spelled (unit_names u)) f
  pub fixes_words : FixesWords f
  pub fixes_unknown : FixesAll (unknown_names (unit_names u)) f

-- what is outside of the module keeps its name
abbrev pub FixesOutside : List (List Referent) → Renaming → Type 0
FixesOutside referents f = (x : List ℕ) → IsOutside referents x → f x ≡ x
