-- Rows of declarations that may be missing: a module, and what each of its uses may refer to, the
-- nearest first. Declarations are counted from 0: those of the module, then those in functions.
use Rattle.std.specs.Prelude.{List, [], ◌∷◌, Some, codes}
use Rattle.wgsl_model.specs.Trees.Statements.{DeclarationKind, assert_of}
use Rattle.wgsl_model.specs.Trees.Units.{TranslationUnit, UnattributedDeclaration}
use Rattle.wgsl_model.specs.Grammar.UnitParts.{value_of}
use Rattle.wgsl_model_names.specs.Scopes.{Referent, declaration, outside}
use Rattle.wgsl_laws_names.specs.RowParts.{a, b, c, f, g, s, t, x, y, name, number, call_of, type_named, attributes_of, if_set, elif_set, else_set, let_under, let_is, declaration_of, const_under, const_is, parameter, empty_function, function_of, module_of}

-- @if(a) fn max() {} fn f() { let y = max(1); }
abbrev pub function_under_if : TranslationUnit
function_under_if = module_of (empty_function (if_set a ∷ []) (codes "max")
    ∷ function_of f [] (let_is y (call_of (codes "max") (number 1 ∷ [])) ∷ []) ∷ [])

abbrev pub function_under_if_referents : List (List Referent)
function_under_if_referents = (outside a ∷ []) ∷ (declaration 0 ∷ outside (codes "max") ∷ []) ∷ []

-- fn f() { @if(a) let exp = 1; let y = exp(2); }
abbrev pub local_under_if : TranslationUnit
local_under_if = module_of (function_of f [] (let_under (if_set a ∷ []) (codes "exp") (number 1)
    ∷ let_is y (call_of (codes "exp") (number 2 ∷ [])) ∷ []) ∷ [])

abbrev pub local_under_if_referents : List (List Referent)
local_under_if_referents = (outside a ∷ []) ∷ (declaration 1 ∷ outside (codes "exp") ∷ []) ∷ []

-- fn f(@if(a) min: u32) { let y = min; }
abbrev pub parameter_under_if : TranslationUnit
parameter_under_if = module_of (function_of f (
    record (parameter (codes "min") (codes "u32")) { attributes = attributes_of (if_set a ∷ []) } ∷ [])
    (let_is y (name (codes "min")) ∷ []) ∷ [])

abbrev pub parameter_under_if_referents : List (List Referent)
parameter_under_if_referents = (outside a ∷ []) ∷ (outside (codes "u32") ∷ [])
    ∷ (declaration 1 ∷ outside (codes "min") ∷ []) ∷ []

-- @if(a) alias f16 = f32; const b: f16 = 1;
abbrev pub alias_under_if : TranslationUnit
alias_under_if = module_of (declaration_of (attributes_of (if_set a ∷ [])) (UnattributedDeclaration.type_alias
    (record { ident = codes "f16"; ty = type_named (codes "f32") }))
    ∷ declaration_of [] (value_of DeclarationKind.const_kind (b, Some (type_named (codes "f16"))) (Some (number 1)))
    ∷ [])

abbrev pub alias_under_if_referents : List (List Referent)
alias_under_if_referents = (outside a ∷ []) ∷ (outside (codes "f32") ∷ [])
    ∷ (declaration 0 ∷ outside (codes "f16") ∷ []) ∷ []

-- @if(a) const s = 2; @else const s = 1; const t = s;
abbrev pub always_one : TranslationUnit
always_one = module_of (const_under (if_set a ∷ []) s (number 2) ∷ const_under (else_set ∷ []) s (number 1)
    ∷ const_is t (name s) ∷ [])

abbrev pub always_one_referents : List (List Referent)
always_one_referents = (outside a ∷ []) ∷ (declaration 1 ∷ declaration 0 ∷ []) ∷ []

-- @if(a) const s = 3; @elif(b) const s = 2; @else const s = 1; const t = s;
abbrev pub always_one_of_three : TranslationUnit
always_one_of_three = module_of (const_under (if_set a ∷ []) s (number 3)
    ∷ const_under (elif_set b ∷ []) s (number 2)
    ∷ const_under (else_set ∷ []) s (number 1) ∷ const_is t (name s) ∷ [])

abbrev pub always_one_of_three_referents : List (List Referent)
always_one_of_three_referents = (outside a ∷ []) ∷ (outside b ∷ [])
    ∷ (declaration 2 ∷ declaration 1 ∷ declaration 0 ∷ []) ∷ []

-- @if(a) const s = 3; @elif(b) const t = 2; @else const s = 1; const x = s;
abbrev pub elif_declares_another : TranslationUnit
elif_declares_another = module_of (const_under (if_set a ∷ []) s (number 3)
    ∷ const_under (elif_set b ∷ []) t (number 2)
    ∷ const_under (else_set ∷ []) s (number 1) ∷ const_is x (name s) ∷ [])

abbrev pub elif_declares_another_referents : List (List Referent)
elif_declares_another_referents = (outside a ∷ []) ∷ (outside b ∷ [])
    ∷ (declaration 2 ∷ declaration 0 ∷ outside s ∷ []) ∷ []

-- @if(a) const s = 3; @elif(b) const_assert c; @else const s = 1; const x = s;
abbrev pub elif_declares_nothing : TranslationUnit
elif_declares_nothing = module_of (const_under (if_set a ∷ []) s (number 3)
    ∷ declaration_of (attributes_of (elif_set b ∷ [])) (UnattributedDeclaration.const_assert (assert_of (name c)))
    ∷ const_under (else_set ∷ []) s (number 1) ∷ const_is x (name s) ∷ [])

abbrev pub elif_declares_nothing_referents : List (List Referent)
elif_declares_nothing_referents = (outside a ∷ []) ∷ (outside b ∷ []) ∷ (outside c ∷ [])
    ∷ (declaration 1 ∷ declaration 0 ∷ outside s ∷ []) ∷ []

-- @if(a) const s = 2; @else @if(b) const s = 1; const t = s;
abbrev pub several_conditions : TranslationUnit
several_conditions = module_of (const_under (if_set a ∷ []) s (number 2)
    ∷ const_under (else_set ∷ if_set b ∷ []) s (number 1) ∷ const_is t (name s) ∷ [])

abbrev pub several_conditions_referents : List (List Referent)
several_conditions_referents = (outside a ∷ []) ∷ (outside b ∷ [])
    ∷ (declaration 1 ∷ declaration 0 ∷ outside s ∷ []) ∷ []

-- fn g() { @if(a) let exp = f(1); @else let exp = exp(2); let y = exp; }
abbrev pub else_uses_its_name : TranslationUnit
else_uses_its_name = module_of (function_of g [] (
    let_under (if_set a ∷ []) (codes "exp") (call_of f (number 1 ∷ []))
    ∷ let_under (else_set ∷ []) (codes "exp") (call_of (codes "exp") (number 2 ∷ []))
    ∷ let_is y (name (codes "exp")) ∷ []) ∷ [])

abbrev pub else_uses_its_name_referents : List (List Referent)
else_uses_its_name_referents = (outside a ∷ []) ∷ (outside f ∷ []) ∷ (declaration 1 ∷ outside (codes "exp") ∷ [])
    ∷ (declaration 2 ∷ declaration 1 ∷ []) ∷ []

-- const x = 1; fn f() { @if(a) let x = 2; let y = x; }
abbrev pub shadowed_under_if : TranslationUnit
shadowed_under_if = module_of (const_is x (number 1)
    ∷ function_of f [] (let_under (if_set a ∷ []) x (number 2) ∷ let_is y (name x) ∷ []) ∷ [])

abbrev pub shadowed_under_if_referents : List (List Referent)
shadowed_under_if_referents = (outside a ∷ []) ∷ (declaration 2 ∷ declaration 0 ∷ []) ∷ []
