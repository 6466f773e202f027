-- Rows of declarations: tokens, and the tree or the fault.
use Rattle.std.specs.Prelude.{List, [], ◌∷◌, Some, None, codes}
use Rattle.grammar.specs.Tokens.{Token, Fault}
use Rattle.wgsl_model.specs.Tokens.ClassTable.{SymArrow, SymAttr, SymBraceLeft, SymBraceRight, SymColon, SymComma, SymEqual, SymOr, SymParenLeft, SymParenRight, SymSemicolon, KwConst, KwFn, KwReturn, KwStruct, KwVar, TemplateArgsStart, TemplateArgsEnd}
use Rattle.wgsl_model.specs.Faults.Kinds.{attribute_kind, var_template_kind}
use Rattle.wgsl_model.specs.Trees.NamedValues.{AccessMode.read_write, AddressSpace.storage}
use Rattle.wgsl_model.specs.Trees.Spanned.{Spanned, spanned}
use Rattle.wgsl_model.specs.Trees.Expressions.{Expression, TypeExpression.type_expression, TemplateArguments.no_template, template_of}
use Rattle.wgsl_model.specs.Trees.Attributes.{OneArgument, NoArgument, Attribute}
use Rattle.wgsl_model.specs.Trees.Attributed.{with_attributes, without_attributes}
use Rattle.wgsl_model.specs.Trees.Statements.{DeclarationKind, StatementNode.statement_node, unattributed, compound_of, return_of}
use Rattle.wgsl_model.specs.Trees.Units.{GlobalDeclaration}
use Rattle.wgsl_model.specs.Grammar.UnitParts.{value_of, struct_of, function_of}
use Rattle.wgsl_laws.specs.RowParts.{span, sign, word, reserved, number_token, at, name_at, number_at, call_at, custom_at}

-- struct S { @size(16) x: f32, y: array<f32, 4>, }
abbrev pub struct_with_a_last_comma_tokens : List Token
struct_with_a_last_comma_tokens = (sign KwStruct 0 6) ∷ (word (codes "S") 7 8)
    ∷ (sign SymBraceLeft 9 10) ∷ (sign SymAttr 11 12) ∷ (word (codes "size") 12 16)
    ∷ (sign SymParenLeft 16 17) ∷ (number_token 16 17 19) ∷ (sign SymParenRight 19 20)
    ∷ (word (codes "x") 21 22) ∷ (sign SymColon 22 23) ∷ (word (codes "f32") 24 27)
    ∷ (sign SymComma 27 28) ∷ (word (codes "y") 29 30) ∷ (sign SymColon 30 31)
    ∷ (word (codes "array") 32 37) ∷ (sign TemplateArgsStart 37 38) ∷ (word (codes "f32") 38 41)
    ∷ (sign SymComma 41 42) ∷ (number_token 4 43 44) ∷ (sign TemplateArgsEnd 44 45)
    ∷ (sign SymComma 45 46) ∷ (sign SymBraceRight 47 48) ∷ []

abbrev pub struct_with_a_last_comma_tree : Spanned GlobalDeclaration
struct_with_a_last_comma_tree = spanned (without_attributes (struct_of (
  word (codes "S") 7 8,
  (spanned (record {
    attributes = spanned (Attribute.with_argument OneArgument.size (number_at 16 17 19)) (span 11 20) ∷ [];
    ident = codes "x";
    ty = (type_expression (codes "f32") no_template);
  }) (span 11 27))
      ∷ (spanned (record {
        attributes = [];
        ident = codes "y";
        ty = type_expression (codes "array")
            (template_of (Some ((name_at (codes "f32") 38 41) ∷ ((number_at 4 43 44) ∷ []))));
      }) (span 29 45) ∷ []),
))) (span 0 48)

-- @fragment fn frag_main() -> @location(0) vec4f { return vec4(1); }
abbrev pub entry_point_tokens : List Token
entry_point_tokens = (sign SymAttr 0 1) ∷ (word (codes "fragment") 1 9) ∷ (sign KwFn 10 12)
    ∷ (word (codes "frag_main") 13 22) ∷ (sign SymParenLeft 22 23) ∷ (sign SymParenRight 23 24)
    ∷ (sign SymArrow 25 27) ∷ (sign SymAttr 28 29) ∷ (word (codes "location") 29 37)
    ∷ (sign SymParenLeft 37 38) ∷ (number_token 0 38 39) ∷ (sign SymParenRight 39 40)
    ∷ (word (codes "vec4f") 41 46) ∷ (sign SymBraceLeft 47 48) ∷ (sign KwReturn 49 55)
    ∷ (word (codes "vec4") 56 60) ∷ (sign SymParenLeft 60 61) ∷ (number_token 1 61 62)
    ∷ (sign SymParenRight 62 63) ∷ (sign SymSemicolon 63 64) ∷ (sign SymBraceRight 65 66) ∷ []

abbrev pub entry_point_tree : Spanned GlobalDeclaration
entry_point_tree = spanned (with_attributes (spanned (Attribute.without_argument NoArgument.fragment)
    (span 0 9) ∷ []) (function_of (word (codes "frag_main") 13 22) [] (Some (
      spanned (Attribute.with_argument OneArgument.location (number_at 0 38 39)) (span 28 40) ∷ [],
      (type_expression (codes "vec4f") no_template),
    ))
    (compound_of [] (statement_node (unattributed (return_of (Some (at (Expression.function_call
    (call_at (codes "vec4") None ((number_at 1 61 62) ∷ []))) 56 63)))) (span 49 64) ∷ [])))) (span 0 66)

-- @const fn f() {}
abbrev pub keyword_as_an_attribute_tokens : List Token
keyword_as_an_attribute_tokens = (sign SymAttr 0 1) ∷ (sign KwConst 1 6) ∷ (sign KwFn 7 9)
    ∷ (word (codes "f") 10 11) ∷ (sign SymParenLeft 11 12) ∷ (sign SymParenRight 12 13)
    ∷ (sign SymBraceLeft 14 15) ∷ (sign SymBraceRight 15 16) ∷ []

abbrev pub keyword_as_an_attribute_tree : Spanned GlobalDeclaration
keyword_as_an_attribute_tree = spanned
    (with_attributes (spanned (Attribute.without_argument NoArgument.const_attribute) (span 0 6) ∷ [])
    (function_of (word (codes "f") 10 11) [] None (compound_of [] []))) (span 0 16)

-- @type(T, i32 | f32) fn f() {}
abbrev pub reserved_word_as_an_attribute_tokens : List Token
reserved_word_as_an_attribute_tokens = (sign SymAttr 0 1) ∷ (reserved (codes "type") 1 5)
    ∷ (sign SymParenLeft 5 6) ∷ (word (codes "T") 6 7) ∷ (sign SymComma 7 8) ∷ (word (codes "i32") 9 12)
    ∷ (sign SymOr 13 14) ∷ (word (codes "f32") 15 18) ∷ (sign SymParenRight 18 19)
    ∷ (sign KwFn 20 22) ∷ (word (codes "f") 23 24) ∷ (sign SymParenLeft 24 25)
    ∷ (sign SymParenRight 25 26) ∷ (sign SymBraceLeft 27 28) ∷ (sign SymBraceRight 28 29) ∷ []

abbrev pub reserved_word_as_an_attribute_tree : Spanned GlobalDeclaration
reserved_word_as_an_attribute_tree = spanned (with_attributes (spanned (Attribute.type_constraint (record {
  ident = codes "T";
  variants = (type_expression (codes "i32") no_template)
      ∷ ((type_expression (codes "f32") no_template) ∷ []);
})) (span 0 19) ∷ []) (function_of (word (codes "f") 23 24) [] None (compound_of [] []))) (span 0 29)

-- var<storage, read_write> s: i32 = t;
abbrev pub variable_in_storage_tokens : List Token
variable_in_storage_tokens = (sign KwVar 0 3) ∷ (sign TemplateArgsStart 3 4) ∷ (word (codes "storage") 4 11)
    ∷ (sign SymComma 11 12) ∷ (word (codes "read_write") 13 23) ∷ (sign TemplateArgsEnd 23 24)
    ∷ (word (codes "s") 25 26) ∷ (sign SymColon 26 27) ∷ (word (codes "i32") 28 31)
    ∷ (sign SymEqual 32 33) ∷ (word (codes "t") 34 35) ∷ (sign SymSemicolon 35 36) ∷ []

abbrev pub variable_in_storage_tree : Spanned GlobalDeclaration
variable_in_storage_tree =
    spanned (without_attributes (value_of (DeclarationKind.var_kind (Some (storage, Some read_write)))
    (codes "s", Some (type_expression (codes "i32") no_template)) (Some (name_at (codes "t") 34 35))))
    (span 0 36)

-- struct S {}
abbrev pub struct_without_members_tokens : List Token
struct_without_members_tokens = (sign KwStruct 0 6) ∷ (word (codes "S") 7 8)
    ∷ (sign SymBraceLeft 9 10) ∷ (sign SymBraceRight 10 11) ∷ []

abbrev pub struct_without_members_fault : Fault
struct_without_members_fault = record { kind = 3; texts = codes "}" ∷ []; span = span 10 11 }

-- @x struct S { a: b }
abbrev pub attribute_before_a_struct_tokens : List Token
attribute_before_a_struct_tokens = (sign SymAttr 0 1) ∷ (word (codes "x") 1 2) ∷ (sign KwStruct 3 9)
    ∷ (word (codes "S") 10 11) ∷ (sign SymBraceLeft 12 13) ∷ (word (codes "a") 14 15)
    ∷ (sign SymColon 15 16) ∷ (word (codes "b") 17 18) ∷ (sign SymBraceRight 19 20) ∷ []

abbrev pub attribute_before_a_struct_tree : Spanned GlobalDeclaration
attribute_before_a_struct_tree = spanned (with_attributes (custom_at (codes "x") 0 2 ∷ []) (struct_of (
  word (codes "S") 10 11,
  spanned (record { attributes = []; ident = codes "a"; ty = type_expression (codes "b") no_template })
      (span 14 18) ∷ [],
))) (span 0 20)

-- @builtin(foo) var x: i32;
abbrev pub unknown_builtin_tokens : List Token
unknown_builtin_tokens = (sign SymAttr 0 1) ∷ (word (codes "builtin") 1 8) ∷ (sign SymParenLeft 8 9)
    ∷ (word (codes "foo") 9 12) ∷ (sign SymParenRight 12 13) ∷ (sign KwVar 14 17) ∷ (word (codes "x") 18 19)
    ∷ (sign SymColon 19 20) ∷ (word (codes "i32") 21 24) ∷ (sign SymSemicolon 24 25) ∷ []

abbrev pub unknown_builtin_fault : Fault
unknown_builtin_fault = record {
  kind = attribute_kind;
  texts = codes "builtin" ∷ (codes "the argument is not a valid built-in value name" ∷ []);
  span = span 0 13;
}

-- @align(1, 2) fn (
abbrev pub too_many_arguments_tokens : List Token
too_many_arguments_tokens = (sign SymAttr 0 1) ∷ (word (codes "align") 1 6)
    ∷ (sign SymParenLeft 6 7) ∷ (number_token 1 7 8) ∷ (sign SymComma 8 9) ∷ (number_token 2 10 11)
    ∷ (sign SymParenRight 11 12) ∷ (sign KwFn 13 15) ∷ (sign SymParenLeft 16 17) ∷ []

abbrev pub too_many_arguments_fault : Fault
too_many_arguments_fault =
    record { kind = attribute_kind; texts = codes "align" ∷ (codes "expected 1 argument" ∷ []); span = span 0 12 }

-- @vertex() fn f() {}
abbrev pub needless_parentheses_tokens : List Token
needless_parentheses_tokens = (sign SymAttr 0 1) ∷ (word (codes "vertex") 1 7)
    ∷ (sign SymParenLeft 7 8) ∷ (sign SymParenRight 8 9) ∷ (sign KwFn 10 12)
    ∷ (word (codes "f") 13 14) ∷ (sign SymParenLeft 14 15) ∷ (sign SymParenRight 15 16)
    ∷ (sign SymBraceLeft 17 18) ∷ (sign SymBraceRight 18 19) ∷ []

abbrev pub needless_parentheses_fault : Fault
needless_parentheses_fault =
    record { kind = attribute_kind; texts = codes "vertex" ∷ (codes "expected 0 arguments" ∷ []); span = span 0 9 }

-- @type(T, 1) fn f() {}
abbrev pub wrong_constraint_tokens : List Token
wrong_constraint_tokens = (sign SymAttr 0 1) ∷ (reserved (codes "type") 1 5) ∷ (sign SymParenLeft 5 6)
    ∷ (word (codes "T") 6 7) ∷ (sign SymComma 7 8) ∷ (number_token 1 9 10) ∷ (sign SymParenRight 10 11)
    ∷ (sign KwFn 12 14) ∷ (word (codes "f") 15 16) ∷ (sign SymParenLeft 16 17)
    ∷ (sign SymParenRight 17 18) ∷ (sign SymBraceLeft 19 20) ∷ (sign SymBraceRight 20 21) ∷ []

abbrev pub wrong_constraint_fault : Fault
wrong_constraint_fault = record {
  kind = attribute_kind;
  texts = codes "type" ∷ (codes "invalid second argument (type constraint)" ∷ []);
  span = span 0 11;
}

-- @align, and the tokens end
abbrev pub bare_attribute_at_the_end_tokens : List Token
bare_attribute_at_the_end_tokens = (sign SymAttr 0 1) ∷ (word (codes "align") 1 6) ∷ []

abbrev pub bare_attribute_at_the_end_fault : Fault
bare_attribute_at_the_end_fault =
    record { kind = attribute_kind; texts = codes "align" ∷ (codes "expected 1 argument" ∷ []); span = span 0 6 }

-- @align, and the tokens end for a failed allocation
abbrev pub bare_attribute_in_want_of_memory_tokens : List Token
bare_attribute_in_want_of_memory_tokens = (sign SymAttr 0 1) ∷ (word (codes "align") 1 6) ∷ []

-- @align(
abbrev pub open_arguments_tokens : List Token
open_arguments_tokens = (sign SymAttr 0 1) ∷ (word (codes "align") 1 6) ∷ (sign SymParenLeft 6 7) ∷ []

abbrev pub open_arguments_fault : Fault
open_arguments_fault = record { kind = 4; texts = []; span = span 7 8 }

-- var<private, read> p: i32;
abbrev pub access_mode_without_storage_tokens : List Token
access_mode_without_storage_tokens = (sign KwVar 0 3) ∷ (sign TemplateArgsStart 3 4)
    ∷ (word (codes "private") 4 11) ∷ (sign SymComma 11 12) ∷ (word (codes "read") 13 17)
    ∷ (sign TemplateArgsEnd 17 18) ∷ (word (codes "p") 19 20) ∷ (sign SymColon 20 21)
    ∷ (word (codes "i32") 22 25) ∷ (sign SymSemicolon 25 26) ∷ []

abbrev pub access_mode_without_storage_fault : Fault
access_mode_without_storage_fault = record {
  kind = var_template_kind;
  texts = codes "only variables with `storage` address space can have an access mode" ∷ [];
  span = span 0 18;
}

-- var<storage, write, read> a: b;
abbrev pub three_template_arguments_tokens : List Token
three_template_arguments_tokens = (sign KwVar 0 3) ∷ (sign TemplateArgsStart 3 4)
    ∷ (word (codes "storage") 4 11) ∷ (sign SymComma 11 12) ∷ (word (codes "write") 13 18)
    ∷ (sign SymComma 18 19) ∷ (word (codes "read") 20 24) ∷ (sign TemplateArgsEnd 24 25)
    ∷ (word (codes "a") 26 27) ∷ (sign SymColon 27 28) ∷ (word (codes "b") 29 30)
    ∷ (sign SymSemicolon 30 31) ∷ []

abbrev pub three_template_arguments_fault : Fault
three_template_arguments_fault =
    record { kind = var_template_kind; texts = codes "template is empty" ∷ []; span = span 0 25 }

-- const self = 1;
abbrev pub reserved_word_as_a_name_tokens : List Token
reserved_word_as_a_name_tokens = (sign KwConst 0 5) ∷ (reserved (codes "self") 6 10)
    ∷ (sign SymEqual 11 12) ∷ (number_token 1 13 14) ∷ (sign SymSemicolon 14 15) ∷ []

abbrev pub reserved_word_as_a_name_fault : Fault
reserved_word_as_a_name_fault = record { kind = 2; texts = codes "self" ∷ []; span = span 6 10 }

-- fn f(
abbrev pub function_without_an_end_tokens : List Token
function_without_an_end_tokens = (sign KwFn 0 2) ∷ (word (codes "f") 3 4) ∷ (sign SymParenLeft 4 5) ∷ []

abbrev pub function_without_an_end_fault : Fault
function_without_an_end_fault = record { kind = 4; texts = []; span = span 5 6 }
