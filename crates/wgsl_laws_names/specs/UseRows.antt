-- Rows of uses and of names that are none: a module, and what each of its uses refers to.
use Rattle.std.specs.Prelude.{ℕ, List, [], ◌∷◌, Some, None, codes}
use Rattle.wgsl_model.specs.Trees.NamedValues.{AddressSpace.storage, AddressSpace.private, AccessMode.read, DiagnosticSeverity.off, BuiltinValue.position, InterpolationType.flat}
use Rattle.wgsl_model.specs.Trees.Operators.{AssignmentOperator.equal}
use Rattle.wgsl_model.specs.Trees.Spanned.{spanned}
use Rattle.wgsl_model.specs.Trees.WithoutSpans.{no_span}
use Rattle.wgsl_model.specs.Trees.Expressions.{Expression}
use Rattle.wgsl_model.specs.Trees.Attributes.{OneArgument, Attribute}
use Rattle.wgsl_model.specs.Trees.Attributed.{with_attributes}
use Rattle.wgsl_model.specs.Trees.Statements.{DeclarationKind, UnattributedStatement, assert_of, assignment_of, increment_of, decrement_of, return_of, local_of}
use Rattle.wgsl_model.specs.Trees.Units.{TranslationUnit, UnattributedDirective, UnattributedDeclaration}
use Rattle.wgsl_model.specs.Grammar.UnitParts.{value_of}
use Rattle.wgsl_model_names.specs.Scopes.{Referent, declaration, outside}
use Rattle.wgsl_laws_names.specs.RowParts.{a, b, c, d, f, g, n, s, t, x, y, at, name, number, call_of, type_named, templated, attributes_of, if_set, elif_set, statement_of, let_is, declaration_of, const_is, parameter, function_with_result, function_returning, empty_function, function_of, module_of}

-- const max = 1; alias f32 = u32; fn f() { let a: f32 = max; let min = min; }
abbrev pub built_in_names : TranslationUnit
built_in_names = module_of (const_is (codes "max") (number 1)
    ∷ declaration_of [] (UnattributedDeclaration.type_alias
    (record { ident = codes "f32"; ty = type_named (codes "u32") }))
    ∷ function_of f [] (
    statement_of (local_of DeclarationKind.let_kind (a, Some (type_named (codes "f32"))) (Some (name (codes "max"))))
    ∷ let_is (codes "min") (name (codes "min")) ∷ []) ∷ [])

abbrev pub built_in_names_referents : List Referent
built_in_names_referents = outside (codes "u32") ∷ declaration 1 ∷ declaration 0 ∷ outside (codes "min") ∷ []

-- const a = 1; @group(a) @binding(b) var<storage, read> c: u32;
-- @workgroup_size(a, d) fn f(@location(a) x: u32) {} @type(t, i32) const b = 1;
abbrev pub attribute_arguments : TranslationUnit
attribute_arguments = module_of (const_is a (number 1)
    ∷ declaration_of (attributes_of (Attribute.with_argument OneArgument.group (name a)
    ∷ Attribute.with_argument OneArgument.binding (name b) ∷ []))
    (value_of (DeclarationKind.var_kind (Some (storage, Some read))) (c, Some (type_named (codes "u32"))) None)
    ∷ declaration_of (attributes_of (
    Attribute.workgroup_size (record { x = name a; y = Some (name d); z = None }) ∷ []))
    (function_returning f (record (parameter x (codes "u32")) {
      attributes = attributes_of (Attribute.with_argument OneArgument.location (name a) ∷ []);
    } ∷ []) None [])
    ∷ declaration_of (attributes_of (
    Attribute.type_constraint (record { ident = t; variants = type_named (codes "i32") ∷ [] }) ∷ []))
    (value_of DeclarationKind.const_kind (b, None) (Some (number 1))) ∷ [])

abbrev pub attribute_arguments_referents : List Referent
attribute_arguments_referents = declaration 0 ∷ declaration 3 ∷ outside (codes "storage") ∷ outside (codes "read")
    ∷ outside (codes "u32") ∷ declaration 0 ∷ outside d ∷ declaration 0 ∷ outside (codes "u32")
    ∷ outside t ∷ outside (codes "i32") ∷ []

-- @if(a) enable a; @if(a) @elif(a) @a(a) @diagnostic(off, a) const first = 1;
-- @builtin(position) @interpolate(flat) const second = 1;
abbrev pub constants_with_attributes : List ℕ → List ℕ → TranslationUnit
constants_with_attributes first second = record {
  global_directives = with_attributes (attributes_of (if_set a ∷ []))
      (UnattributedDirective.enable (record { extensions = a ∷ [] })) ∷ [];
  global_declarations =
      declaration_of (attributes_of (if_set a ∷ elif_set a
      ∷ Attribute.custom (record { name = a; arguments = Some (name a ∷ []) })
      ∷ Attribute.diagnostic (record { severity = off; rule = a }) ∷ []))
      (value_of DeclarationKind.const_kind (first, None) (Some (number 1)))
      ∷ declaration_of (attributes_of (Attribute.builtin position
      ∷ Attribute.interpolate (record { ty = flat; sampling = None }) ∷ []))
      (value_of DeclarationKind.const_kind (second, None) (Some (number 1))) ∷ [];
}

-- the constants `a` and `position`
abbrev pub unknown_in_attributes : TranslationUnit
unknown_in_attributes = constants_with_attributes a (codes "position")

abbrev pub unknown_in_attributes_referents : List Referent
unknown_in_attributes_referents = outside a ∷ outside a ∷ outside a ∷ outside a ∷ []

-- const b = 1; @if(b) fn f() {}
abbrev pub condition : TranslationUnit
condition = module_of (const_is b (number 1) ∷ empty_function (if_set b ∷ []) f ∷ [])

abbrev pub condition_referents : List Referent
condition_referents = outside b ∷ []

-- const b = 1; @subgroup_size(b) fn f() {}
abbrev pub unknown_attribute : TranslationUnit
unknown_attribute = module_of (const_is b (number 1) ∷ empty_function (
    Attribute.custom (record { name = codes "subgroup_size"; arguments = Some (name b ∷ []) }) ∷ []) f ∷ [])

abbrev pub unknown_attribute_referents : List Referent
unknown_attribute_referents = outside b ∷ []

-- const_assert a; const a = 1; fn f() { const_assert a; let a = 2; const_assert a; }
abbrev pub assertions : TranslationUnit
assertions = module_of (declaration_of [] (UnattributedDeclaration.const_assert (assert_of (name a)))
    ∷ const_is a (number 1)
    ∷ function_of f [] (statement_of (UnattributedStatement.const_assert (assert_of (name a)))
    ∷ let_is a (number 2)
    ∷ statement_of (UnattributedStatement.const_assert (assert_of (name a))) ∷ []) ∷ [])

abbrev pub assertions_referents : List Referent
assertions_referents = declaration 0 ∷ declaration 0 ∷ declaration 2 ∷ []

-- const n = 4; var<private> a: array<f32, n>; fn f(n: u32) { let b = vec2<n>; }
abbrev pub template_arguments : TranslationUnit
template_arguments = module_of (const_is n (number 4)
    ∷ declaration_of [] (value_of (DeclarationKind.var_kind (Some (private, None)))
    (a, Some (templated (codes "array") (name (codes "f32") ∷ name n ∷ []))) None)
    ∷ function_of f (parameter n (codes "u32") ∷ [])
    (let_is b (at (Expression.type_or_identifier (templated (codes "vec2") (name n ∷ [])))) ∷ []) ∷ [])

abbrev pub template_arguments_referents : List Referent
template_arguments_referents = outside (codes "private") ∷ outside (codes "array") ∷ outside (codes "f32")
    ∷ declaration 0 ∷ outside (codes "u32") ∷ outside (codes "vec2") ∷ declaration 3 ∷ []

-- struct s { x: t } alias t = u32; fn f(x: s) { let t = x.x; let y = x[t].t.xy; }
abbrev pub members : TranslationUnit
members = module_of (
    declaration_of [] (UnattributedDeclaration.structure (record {
      ident = s;
      members = spanned (record { attributes = []; ident = x; ty = type_named t }) no_span ∷ [];
    }))
    ∷ declaration_of [] (UnattributedDeclaration.type_alias (record { ident = t; ty = type_named (codes "u32") }))
    ∷ function_of f (parameter x s ∷ []) (let_is t (at (Expression.named_component (name x) x))
    ∷ let_is y (at (Expression.named_component (at (Expression.named_component
    (at (Expression.indexing (name x) (name t))) t)) (codes "xy"))) ∷ []) ∷ [])

abbrev pub members_referents : List Referent
members_referents = declaration 1 ∷ outside (codes "u32") ∷ declaration 0 ∷ declaration 3
    ∷ declaration 3 ∷ declaration 4 ∷ []

-- const n = 16; struct s { @size(n) x: f32 } fn f() -> @location(n) s { return s(x); }
abbrev pub members_and_results : TranslationUnit
members_and_results = module_of (const_is n (number 16)
    ∷ declaration_of [] (UnattributedDeclaration.structure (record {
      ident = s;
      members = spanned (record {
        attributes = attributes_of (Attribute.with_argument OneArgument.size (name n) ∷ []);
        ident = x;
        ty = type_named (codes "f32");
      }) no_span ∷ [];
    }))
    ∷ declaration_of [] (function_with_result f []
    (attributes_of (Attribute.with_argument OneArgument.location (name n) ∷ [])) (Some (type_named s))
    (statement_of (return_of (Some (call_of s (name x ∷ [])))) ∷ [])) ∷ [])

abbrev pub members_and_results_referents : List Referent
members_and_results_referents = declaration 0 ∷ outside (codes "f32") ∷ declaration 0 ∷ declaration 1
    ∷ declaration 1 ∷ outside x ∷ []

-- const storage = 1; var<storage> a: u32;
abbrev pub declared_address_space : TranslationUnit
declared_address_space = module_of (const_is (codes "storage") (number 1)
    ∷ declaration_of [] (value_of (DeclarationKind.var_kind (Some (storage, None)))
    (a, Some (type_named (codes "u32"))) None) ∷ [])

abbrev pub declared_address_space_referents : List Referent
declared_address_space_referents = declaration 0 ∷ outside (codes "u32") ∷ []

-- fn f(a: u32) { var b = (a); b = a; b++; b--; _ = g(a); return; }
abbrev pub simple_statements : TranslationUnit
simple_statements = module_of (function_of f (parameter a (codes "u32") ∷ []) (
    statement_of (local_of (DeclarationKind.var_kind None) (b, None) (Some (at (Expression.parenthesized (name a)))))
    ∷ statement_of (assignment_of (name b) equal (name a))
    ∷ statement_of (increment_of (name b)) ∷ statement_of (decrement_of (name b))
    ∷ statement_of (assignment_of (name (codes "_")) equal (call_of g (name a ∷ [])))
    ∷ statement_of (return_of None) ∷ []) ∷ [])

abbrev pub simple_statements_referents : List Referent
simple_statements_referents = outside (codes "u32") ∷ declaration 1 ∷ declaration 2 ∷ declaration 1
    ∷ declaration 2 ∷ declaration 2 ∷ outside (codes "_") ∷ outside g ∷ declaration 1 ∷ []

-- members, renamed by a `1` after each name: struct s1 { x: t1 } alias t1 = u321;
-- fn f1(x1: s1) { let t1 = x1.x; let y1 = x1[t1].t.xy; }
abbrev pub renamed_members : TranslationUnit
renamed_members = module_of (
    declaration_of [] (UnattributedDeclaration.structure (record {
      ident = codes "s1";
      members = spanned (record { attributes = []; ident = x; ty = type_named (codes "t1") }) no_span ∷ [];
    }))
    ∷ declaration_of [] (UnattributedDeclaration.type_alias
    (record { ident = codes "t1"; ty = type_named (codes "u321") }))
    ∷ function_of (codes "f1") (parameter (codes "x1") (codes "s1") ∷ [])
    (let_is (codes "t1") (at (Expression.named_component (name (codes "x1")) x))
    ∷ let_is (codes "y1") (at (Expression.named_component (at (Expression.named_component
    (at (Expression.indexing (name (codes "x1")) (name (codes "t1")))) t)) (codes "xy"))) ∷ []) ∷ [])

-- unknown_in_attributes, renamed so: the constants `a1` and `position1`
abbrev pub renamed_constants : TranslationUnit
renamed_constants = constants_with_attributes (codes "a1") (codes "position1")
