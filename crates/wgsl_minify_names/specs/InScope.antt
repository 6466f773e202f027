-- The names that are in scope in a list of occurrences, and those that stay.
use Rattle.std.specs.Prelude.{ℕ, Bool, true, false, ◌&&◌, if◌then◌else◌, List, [], ◌∷◌, ◌++◌, Option, Some, None, length, map, reverse, take, bytes_eq}
use Rattle.std.specs.Borrow.{Bor}
use Rattle.std.specs.List.{list_any}
use Rattle.std.specs.Option.{option_to_list}
use Rattle.wgsl_model_names.specs.Scopes.{Branch, under_if, under_elif, under_else, under_several}
use Rattle.wgsl_model_minify.specs.Occurrences.{Occurrence, use_of, unknown_name, declaration_of, alternative_of, scope_start, scope_end}
use Rattle.wgsl_minify_names.specs.View.{name_view, texts}
use Rattle.wgsl_minify_names.specs.declared.scope.Scopes.{Scopes}

-- what is declared: the names that are declared whatever the conditions, each once, and the name
-- that each alternative since the last `@if` declares
pub record Declared : Type 0 where
  pub names : List (List ℕ)
  pub in_each : Option (List ℕ)

-- what is declared, and what was where each open scope started, the last scope first: how many
-- names, and the name in each alternative
pub record InScope : Type 0 where
  pub declared : Declared
  pub starts : List (ℕ × Option (List ℕ))

abbrev pub declared_view : Scopes → Declared
declared_view scopes = record { names = texts scopes.in_scope.keys; in_each = name_view scopes.in_each }

abbrev pub start_view : ℕ × Option (Bor (List ℕ)) → ℕ × Option (List ℕ)
start_view start = (start.0, name_view start.1)

abbrev pub scopes_view : Scopes → InScope
scopes_view scopes = record {
  declared = declared_view scopes;
  starts = map start_view (reverse scopes.starts.items);
}

abbrev pub nothing_declared : Declared
nothing_declared = record { names = []; in_each = None }

abbrev pub no_scopes : InScope
no_scopes = record { declared = nothing_declared; starts = [] }

-- a name is in a list
abbrev pub is_in : List ℕ → List (List ℕ) → Bool
is_in x names = list_any (bytes_eq x) names

-- names and one more, if it is not there
abbrev pub with_name : List (List ℕ) → List ℕ → List (List ℕ)
with_name names x = if is_in x names then names else names ++ x ∷ []

-- the name that two are
abbrev pub same_name : Option (List ℕ) → Option (List ℕ) → Option (List ℕ)
same_name None other = None
same_name (Some x) None = None
same_name (Some x) (Some y) = if bytes_eq x y then Some x else None

-- what is declared after a declaration, if there is one, whatever the conditions
abbrev pub with_declaration : Option (List ℕ) → Declared → Declared
with_declaration None known = record { names = known.names; in_each = None }
with_declaration (Some x) known = record { names = with_name known.names x; in_each = None }

-- what is declared after an alternative: at the one under `@else` the name that each declares
abbrev pub with_alternative : Branch → Option (List ℕ) → Declared → Declared
with_alternative under_if name known = record { names = known.names; in_each = name }
with_alternative under_elif name known = record {
  names = known.names;
  in_each = same_name known.in_each name;
}
with_alternative under_else name known = with_declaration (same_name known.in_each name) known
with_alternative under_several name known = with_declaration None known

-- what is in scope after the end of a scope
abbrev pub after_scope : Declared → List (ℕ × Option (List ℕ)) → InScope
after_scope known [] = record { declared = known; starts = [] }
after_scope known (start ∷ starts) = record {
  declared = record { names = take start.0 known.names; in_each = start.1 };
  starts = starts;
}

-- what is in scope after an occurrence
abbrev pub past : InScope → Occurrence → InScope
past known (use_of x) = known
past known (unknown_name x) = known
past known (declaration_of x) = record known { declared = with_declaration (Some x) known.declared }
past known (alternative_of branch name) = record known {
  declared = with_alternative branch name known.declared;
}
past known scope_start = record known {
  starts = (length known.declared.names, known.declared.in_each) ∷ known.starts;
}
past known scope_end = after_scope known.declared known.starts

-- whether no scope is open
abbrev pub none_open : List (ℕ × Option (List ℕ)) → Bool
none_open [] = true
none_open (start ∷ starts) = false

-- a declared name that stays, since only local names get new ones and this is declared in no scope
abbrev pub staying_own : Bool → InScope → Option (List ℕ) → List (List ℕ)
staying_own locals known name = if locals && none_open known.starts then option_to_list name else []

-- the name that stays at an occurrence: one that is used where it may not be declared, one of which
-- it is not known what it refers to, and a declared one of the module's own
abbrev pub staying_at : Bool → InScope → Occurrence → List (List ℕ)
staying_at locals known (use_of x) = if is_in x known.declared.names then [] else x ∷ []
staying_at locals known (unknown_name x) = x ∷ []
staying_at locals known (declaration_of x) = staying_own locals known (Some x)
staying_at locals known (alternative_of branch name) = staying_own locals known name
staying_at locals known scope_start = []
staying_at locals known scope_end = []

-- the names that stay at the occurrences of a list
abbrev pub staying : Bool → InScope → List Occurrence → List (List ℕ)
staying locals known [] = []
staying locals known (o ∷ os) = staying_at locals known o ++ staying locals (past known o) os

-- the name that occurs
abbrev pub name_of : Occurrence → List (List ℕ)
name_of (use_of x) = x ∷ []
name_of (unknown_name x) = x ∷ []
name_of (declaration_of x) = x ∷ []
name_of (alternative_of branch name) = option_to_list name
name_of scope_start = []
name_of scope_end = []

-- the names that occur in a list
abbrev pub names_of : List Occurrence → List (List ℕ)
names_of [] = []
names_of (o ∷ os) = name_of o ++ names_of os
