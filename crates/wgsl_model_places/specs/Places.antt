-- The names of tokens: where they are, what they are, and what each use may refer to.
use Rattle.std.specs.Prelude.{false, List, [], ◌∷◌, ◌++◌, Option, None, Some, flat_map}
use Rattle.std.specs.Option.{option_map, option_to_list}
use Rattle.grammar.specs.Tokens.{Token}
use Rattle.wgsl_model_names.specs.Scopes.{Branch, Referent, outside, InScope, Known, with_entry, may_refer_to, nothing_known}
use Rattle.wgsl_model_minify.specs.Occurrences.{Occurrence, use_of, unknown_name, declaration_of, alternative_of, scope_start, scope_end}
use Rattle.wgsl_model_places.specs.Roles as role
use Rattle.wgsl_model_places.specs.Roles.{Role, Name, Entry, Event}
use Rattle.wgsl_model_places.specs.Steps.{events}

-- the name that is there, with what it is
abbrev pub names_in : Event → List (Role × Name)
names_in (role.named what name) = (what, name) ∷ []
names_in event = []

-- the names of tokens, in their order
abbrev pub names : List Token → List (Role × Name)
names ts = flat_map names_in (events ts)

-- ---- occurrences
abbrev pub entry_occurs : Option Branch → Option Name → List Occurrence
entry_occurs None None = []
entry_occurs None (Some name) = declaration_of name.text ∷ []
entry_occurs (Some branch) name = alternative_of branch (option_map (λ (it : Name). it.text) name) ∷ []

abbrev pub named_occurs : Role → Name → List Occurrence
named_occurs role.uses name = use_of name.text ∷ []
named_occurs role.unknown name = unknown_name name.text ∷ []
named_occurs other name = []

-- what comes into scope in the whole module, and all else
abbrev pub module_occurs : Event → List Occurrence
module_occurs (role.in_module entry) = entry_occurs entry.branch entry.name
module_occurs event = []

abbrev pub inner_occurs : Event → List Occurrence
inner_occurs (role.named what name) = named_occurs what name
inner_occurs (role.in_module entry) = []
inner_occurs (role.in_scope entry) = entry_occurs entry.branch entry.name
inner_occurs role.scope_start = scope_start ∷ []
inner_occurs role.scope_end = scope_end ∷ []

-- what comes into scope in the whole module is first
abbrev pub arranged : List Event → List Occurrence
arranged es = flat_map module_occurs es ++ flat_map inner_occurs es

abbrev pub occurrences : List Token → List Occurrence
occurrences ts = arranged (events ts)

-- ---- referents
-- what is known, and what was in scope where each open scope started, the last one first
abbrev pub Resolving : Type 0
Resolving = Known × List InScope

abbrev pub reopened : Known → List InScope → Resolving
reopened known [] = (known, [])
reopened known (scope ∷ scopes) = (record known { in_scope = scope }, scopes)

abbrev pub after_occurrence : Occurrence → Resolving → Resolving
after_occurrence (use_of x) (known, scopes) =
    (record known { referents = known.referents ++ (may_refer_to false known.in_scope x ∷ []) }, scopes)
after_occurrence (unknown_name x) (known, scopes) =
    (record known { referents = known.referents ++ ((outside x ∷ []) ∷ []) }, scopes)
after_occurrence (declaration_of x) (known, scopes) = (with_entry None (Some x) known, scopes)
after_occurrence (alternative_of branch name) (known, scopes) = (with_entry (Some branch) name known, scopes)
after_occurrence scope_start (known, scopes) = (known, known.in_scope ∷ scopes)
after_occurrence scope_end (known, scopes) = reopened known scopes

abbrev pub after_occurrences : List Occurrence → Resolving → Resolving
after_occurrences [] known = known
after_occurrences (o ∷ os) known = after_occurrences os (after_occurrence o known)

-- what is known after all that happens to names
abbrev pub resolved : List Event → Known
resolved es = (after_occurrences (arranged es) (nothing_known, [])).0

-- what each use of some tokens may refer to, in the order of the uses
abbrev pub referents : List Token → List (List Referent)
referents ts = (resolved (events ts)).referents

-- ---- declarations
-- the name that is declared in the whole module, and in a scope
abbrev pub module_declares : Event → List Name
module_declares (role.in_module entry) = option_to_list entry.name
module_declares event = []

abbrev pub scope_declares : Event → List Name
scope_declares (role.in_scope entry) = option_to_list entry.name
scope_declares event = []

-- the declarations, each at its number
abbrev pub declared : List Event → List Name
declared es = flat_map module_declares es ++ flat_map scope_declares es

abbrev pub declarations : List Token → List Name
declarations ts = declared (events ts)
