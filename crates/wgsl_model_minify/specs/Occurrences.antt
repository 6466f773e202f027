-- The names of a part of a module as one list, in their order.
use Rattle.std.specs.Prelude.{ℕ, List, [], ◌∷◌, ◌++◌, Option}
use Rattle.wgsl_model_names.specs.Scopes.{Names, nothing, used, unknown, declared, alternative, ◌then◌, scope, Branch}

-- a use or a declaration of a name, a name of which it is not known what it refers to, what is there
-- under a condition, with the name that it declares, or where a scope starts or ends
pub data Occurrence : Type 0 where
  use_of : List ℕ → Occurrence
  unknown_name : List ℕ → Occurrence
  declaration_of : List ℕ → Occurrence
  alternative_of : Branch → Option (List ℕ) → Occurrence
  scope_start : Occurrence
  scope_end : Occurrence

-- what is met in a part, from its start to its end
abbrev pub occurrences : Names → List Occurrence
occurrences nothing = []
occurrences (used x) = use_of x ∷ []
occurrences (unknown x) = unknown_name x ∷ []
occurrences (declared x) = declaration_of x ∷ []
occurrences (alternative branch name) = alternative_of branch name ∷ []
occurrences (a then b) = occurrences a ++ occurrences b
occurrences (scope a) = scope_start ∷ (occurrences a ++ (scope_end ∷ []))
