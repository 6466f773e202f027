-- Rows of modules: tokens, and the tree or the fault.
use Rattle.std.specs.Prelude.{List, [], ◌∷◌, Some, None, codes}
use Rattle.grammar.specs.Tokens.{Token, Fault}
use Rattle.wgsl_model.specs.Tokens.ClassTable.{SymEqual, SymSemicolon, KwAlias, KwConst, KwEnable, SymAttr, SymBraceLeft, SymBraceRight, SymParenLeft, SymParenRight, KwFn, KwIf}
use Rattle.wgsl_model.specs.Faults.Kinds.{attribute_kind}
use Rattle.wgsl_model.specs.Trees.Spanned.{spanned}
use Rattle.wgsl_model.specs.Trees.Expressions.{TypeExpression.type_expression, TemplateArguments.no_template}
use Rattle.wgsl_model.specs.Trees.Attributed.{without_attributes, with_attributes}
use Rattle.wgsl_model.specs.Trees.Statements.{DeclarationKind}
use Rattle.wgsl_model.specs.Trees.Units.{UnattributedDeclaration, TranslationUnit}
use Rattle.wgsl_model.specs.Grammar.UnitParts.{value_of, alias_of, enable_of}
use Rattle.wgsl_laws.specs.DeclarationsRows.{attribute_before_a_struct_tokens, attribute_before_a_struct_tree}
use Rattle.wgsl_laws.specs.RowParts.{span, sign, word, number_token, number_at, name_at, if_at}

-- no token
abbrev pub empty_unit_tokens : List Token
empty_unit_tokens = []

abbrev pub empty_unit_tree : TranslationUnit
empty_unit_tree = record { global_directives = []; global_declarations = [] }

-- ; alias A = B; const N = 0x1f;
abbrev pub three_declarations_tokens : List Token
three_declarations_tokens = (sign SymSemicolon 0 1) ∷ (sign KwAlias 2 7) ∷ (word (codes "A") 8 9)
    ∷ (sign SymEqual 10 11) ∷ (word (codes "B") 12 13) ∷ (sign SymSemicolon 13 14)
    ∷ (sign KwConst 15 20) ∷ (word (codes "N") 21 22) ∷ (sign SymEqual 23 24)
    ∷ (number_token 31 25 29) ∷ (sign SymSemicolon 29 30) ∷ []

abbrev pub three_declarations_tree : TranslationUnit
three_declarations_tree = record {
  global_directives = [];
  global_declarations = spanned (without_attributes UnattributedDeclaration.void) (span 0 1)
      ∷ (spanned (without_attributes (alias_of (word (codes "A") 8 9, (type_expression (codes "B") no_template))))
      (span 2 14) ∷ (spanned (without_attributes (value_of DeclarationKind.const_kind
      (codes "N", None) (Some (number_at 31 25 29)))) (span 15 30) ∷ []));
}

-- ; enable a;
abbrev pub directive_after_a_declaration_tokens : List Token
directive_after_a_declaration_tokens = (sign SymSemicolon 0 1) ∷ (sign KwEnable 2 8)
    ∷ (word (codes "a") 9 10) ∷ (sign SymSemicolon 10 11) ∷ []

abbrev pub directive_after_a_declaration_fault : Fault
directive_after_a_declaration_fault = record { kind = 3; texts = codes "enable" ∷ []; span = span 2 8 }

-- @if(a) enable f16;
abbrev pub attribute_before_a_directive_tokens : List Token
attribute_before_a_directive_tokens = (sign SymAttr 0 1) ∷ (sign KwIf 1 3) ∷ (sign SymParenLeft 3 4)
    ∷ (word (codes "a") 4 5) ∷ (sign SymParenRight 5 6) ∷ (sign KwEnable 7 13)
    ∷ (word (codes "f16") 14 17) ∷ (sign SymSemicolon 17 18) ∷ []

abbrev pub attribute_before_a_directive_tree : TranslationUnit
attribute_before_a_directive_tree = record {
  global_directives = with_attributes (if_at (name_at (codes "a") 4 5) 0 6 ∷ [])
      (enable_of (word (codes "f16") 14 17 ∷ [])) ∷ [];
  global_declarations = [];
}

-- @x struct S { a: b }
abbrev pub attribute_before_the_first_declaration_tokens : List Token
attribute_before_the_first_declaration_tokens = attribute_before_a_struct_tokens

abbrev pub attribute_before_the_first_declaration_tree : TranslationUnit
attribute_before_the_first_declaration_tree =
    record { global_directives = []; global_declarations = attribute_before_a_struct_tree ∷ [] }

-- ; @a enable b;
abbrev pub directive_with_an_attribute_after_a_declaration_tokens : List Token
directive_with_an_attribute_after_a_declaration_tokens = (sign SymSemicolon 0 1)
    ∷ (sign SymAttr 2 3) ∷ (word (codes "a") 3 4) ∷ (sign KwEnable 5 11) ∷ (word (codes "b") 12 13)
    ∷ (sign SymSemicolon 13 14) ∷ []

abbrev pub directive_with_an_attribute_after_a_declaration_fault : Fault
directive_with_an_attribute_after_a_declaration_fault =
    record { kind = 3; texts = codes "enable" ∷ []; span = span 5 11 }

-- @align fn
abbrev pub bare_attribute_before_a_function_tokens : List Token
bare_attribute_before_a_function_tokens = (sign SymAttr 0 1) ∷ (word (codes "align") 1 6) ∷ (sign KwFn 7 9) ∷ []

abbrev pub bare_attribute_before_a_function_fault : Fault
bare_attribute_before_a_function_fault =
    record { kind = attribute_kind; texts = codes "align" ∷ (codes "expected 1 argument" ∷ []); span = span 0 6 }

-- fn f() { @a }
abbrev pub attribute_before_no_statement_tokens : List Token
attribute_before_no_statement_tokens = (sign KwFn 0 2) ∷ (word (codes "f") 3 4)
    ∷ (sign SymParenLeft 4 5) ∷ (sign SymParenRight 5 6) ∷ (sign SymBraceLeft 7 8)
    ∷ (sign SymAttr 9 10) ∷ (word (codes "a") 10 11) ∷ (sign SymBraceRight 12 13) ∷ []

abbrev pub attribute_before_no_statement_fault : Fault
attribute_before_no_statement_fault = record { kind = 3; texts = codes "}" ∷ []; span = span 12 13 }
