-- The names by which a host program refers to declarations of a module.
use Rattle.std.specs.Prelude.{ℕ, Bool, true, false, List, [], ◌∷◌, if◌then◌else◌, flat_map, is_none}
use Rattle.std.specs.List.{list_any}
use Rattle.wgsl_model.specs.Trees.Attributes.{Attribute, Attributes, without_argument, vertex, fragment, compute, custom}
use Rattle.wgsl_model.specs.Trees.Statements.{DeclarationKind, override_kind}
use Rattle.wgsl_model.specs.Trees.Units.{TranslationUnit, UnattributedDeclaration, declaration, function}

-- An attribute for a shader stage makes a function an entry point (WGSL, "Entry Points"). One
-- without arguments that the language does not know may be for a stage of an extension.
abbrev pub is_stage : Attribute → Bool
is_stage (without_argument vertex) = true
is_stage (without_argument fragment) = true
is_stage (without_argument compute) = true
is_stage (custom c) = is_none c.arguments
is_stage a = false

abbrev pub is_entry_point : Attributes → Bool
is_entry_point attributes = list_any (λ a. is_stage a.node) attributes

-- an override has a value that a host program may give (WGSL, "override-declaration")
abbrev pub is_override : DeclarationKind → Bool
is_override override_kind = true
is_override kind = false

-- the name of an entry point or of an override
abbrev pub host_name : Attributes → UnattributedDeclaration → List (List ℕ)
host_name attributes (declaration d) = if is_override d.kind then d.ident ∷ [] else []
host_name attributes (function f) = if is_entry_point attributes then f.ident ∷ [] else []
host_name attributes d = []

-- the names of a module that a host program may use
abbrev pub host_names : TranslationUnit → List (List ℕ)
host_names u = flat_map (λ d. host_name d.node.attributes d.node.node) u.global_declarations
