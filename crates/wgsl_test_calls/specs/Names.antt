-- The names of the functions of a module.
use Rattle.std.specs.Prelude.{ℕ, List, [], ◌∷◌, flat_map}
use Rattle.wgsl_parse.specs.Spanned.{Spanned}
use Rattle.wgsl_parse.specs.Units.{UnattributedDeclaration, function, GlobalDeclaration, TranslationUnit}

-- the name of a function, and of no other declaration
abbrev pub function_name : UnattributedDeclaration → List (List ℕ)
function_name (function f) = f.ident ∷ []
function_name _ = []

-- of a declaration with its attributes, where it is
abbrev pub function_name_in : Spanned GlobalDeclaration → List (List ℕ)
function_name_in d = function_name d.node.node

-- of all declarations of a module, in their order
abbrev pub names_of : TranslationUnit → List (List ℕ)
names_of unit = flat_map function_name_in unit.global_declarations
