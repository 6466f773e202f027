-- The names of a module that get new names.
use Rattle.std.specs.Prelude.{ℕ, List, [], ◌∷◌, ◌++◌, Contains, codes}
use Rattle.std.specs.Map.{keys_of}
use Rattle.std.specs.Option.{option_to_list}
use Rattle.wgsl_model.specs.Trees.NamedValues.{address_spaces, access_modes}
use Rattle.wgsl_model_names.specs.Scopes.{Names, nothing, used, unknown, declared, alternative, ◌then◌, scope, IsOutside, referents_of}

-- the names that get new ones: none, those that are declared in functions alone, or all that are
-- declared
pub data Which : Type 0 where
  no_names local_names all_names : Which

-- the names that are declared
abbrev pub declared_names : Names → List (List ℕ)
declared_names nothing = []
declared_names (used x) = []
declared_names (unknown x) = []
declared_names (declared x) = x ∷ []
declared_names (alternative branch name) = option_to_list name
declared_names (a then b) = declared_names a ++ declared_names b
declared_names (scope a) = declared_names a

-- the names that are declared in no scope, as a module declares its own
abbrev pub module_names : Names → List (List ℕ)
module_names nothing = []
module_names (used x) = []
module_names (unknown x) = []
module_names (declared x) = x ∷ []
module_names (alternative branch name) = option_to_list name
module_names (a then b) = module_names a ++ module_names b
module_names (scope a) = []

-- a name is declared where names get new ones
abbrev pub IsDeclaredFor : Which → Names → List ℕ → Type 0
IsDeclaredFor no_names names x = ⊥
IsDeclaredFor local_names names x = Contains (declared_names names) x × ¬ (Contains (module_names names) x)
IsDeclaredFor all_names names x = Contains (declared_names names) x

-- `_`, and the words of address spaces and access modes
abbrev pub fixed_words : List (List ℕ)
fixed_words = codes "_" ∷ (keys_of address_spaces ++ keys_of access_modes)

-- a name that gets a new one: no use of it may refer to what is outside, it is not to be kept, and it
-- is no word
pub record GetsNewName (which : Which) (keep : List (List ℕ)) (names : Names) (x : List ℕ) : Type 0 where
  pub declared : IsDeclaredFor which names x
  pub not_outside : ¬ (IsOutside (referents_of names) x)
  pub not_kept : ¬ (Contains keep x)
  pub no_word : ¬ (Contains fixed_words x)
