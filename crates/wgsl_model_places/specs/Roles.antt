-- What a name is where it is, and what happens to names from one token to the next.
use Rattle.std.specs.Prelude.{ℕ, List, [], ◌∷◌, Option, None}
use Rattle.wgsl_model_names.specs.Scopes.{Branch}

-- what is declared (WGSL, "Declaration and Scope")
pub data Declared : Type 0 where
  function parameter structure member alias constant override variable let_value : Declared

-- what a name is
pub data Role : Type 0 where
  -- the name of what is declared here
  declares : Declared → Role
  -- a use of what is in scope, or of what is outside of the module
  uses : Role
  -- a name of which it is not known what it refers to
  unknown : Role
  -- after `.`: a member of a structure, or components of a vector
  component : Role
  -- a word that has its meaning from where it is, as the name of an attribute
  word : Role

-- a name by its text, and from where up to where it is
pub record Name : Type 0 where
  pub text : List ℕ
  pub start : ℕ
  pub end : ℕ

-- what comes into scope: a declaration, or what is there only under a condition, also if it
-- declares nothing
pub record Entry : Type 0 where
  pub branch : Option Branch
  pub name : Option Name

-- a name with what it is; what comes into scope, in the whole module or up to the end of the scope
-- that is open; and where a scope starts and ends
pub data Event : Type 0 where
  named : Role → Name → Event
  in_module in_scope : Entry → Event
  scope_start scope_end : Event

-- what comes into scope at the end of what may declare a name under a condition
abbrev pub entries : Option Branch → Option Name → List Entry
entries None None = []
entries branch name = record { branch = branch; name = name } ∷ []
