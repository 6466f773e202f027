-- Rows of texts of the dialect: tokens, and the tree or the fault.
use Rattle.std.specs.Prelude.{List, [], ◌∷◌, Some, None, codes}
use Rattle.grammar.specs.Tokens.{Token, Fault}
use Rattle.wgsl_model.specs.Tokens.ClassTable.{SymAttr, SymBraceLeft, SymBraceRight, SymColon, SymComma, SymEqual, SymMinusMinus, SymParenLeft, SymParenRight, SymSemicolon, KwConst, KwDiagnostic, KwFn, KwVar, TemplateArgsStart, TemplateArgsEnd}
use Rattle.wgsl_model.specs.Trees.Spanned.{Spanned, spanned}
use Rattle.wgsl_model.specs.Trees.Expressions.{TypeExpression.type_expression, TemplateArguments.no_template}
use Rattle.wgsl_model.specs.Trees.Attributed.{without_attributes}
use Rattle.wgsl_model.specs.Trees.Statements.{DeclarationKind}
use Rattle.wgsl_model.specs.Trees.Units.{GlobalDirective, GlobalDeclaration}
use Rattle.wgsl_model.specs.Grammar.UnitParts.{value_of, diagnostic_of}
use Rattle.wgsl_laws.specs.DeclarationsRows.{attribute_before_a_struct_tokens}
use Rattle.wgsl_laws.specs.RowParts.{span, sign, word, reserved, number_token}

-- 5--7
abbrev pub minus_minus_dialect_tokens : List Token
minus_minus_dialect_tokens = (number_token 5 0 1) ∷ (sign SymMinusMinus 1 3) ∷ (number_token 7 3 4) ∷ []

abbrev pub minus_minus_dialect_fault : Fault
minus_minus_dialect_fault = record { kind = 3; texts = codes "--" ∷ []; span = span 1 3 }

-- const self = 1;
abbrev pub reserved_word_dialect_tokens : List Token
reserved_word_dialect_tokens = (sign KwConst 0 5) ∷ (reserved (codes "self") 6 10)
    ∷ (sign SymEqual 11 12) ∷ (number_token 1 13 14) ∷ (sign SymSemicolon 14 15) ∷ []

abbrev pub reserved_word_dialect_fault : Fault
reserved_word_dialect_fault = record { kind = 3; texts = codes "reserved word `self`" ∷ []; span = span 6 10 }

-- diagnostic(bad, x);
abbrev pub severity_dialect_tokens : List Token
severity_dialect_tokens = (sign KwDiagnostic 0 10) ∷ (sign SymParenLeft 10 11)
    ∷ (word (codes "bad") 11 14) ∷ (sign SymComma 14 15) ∷ (word (codes "x") 16 17)
    ∷ (sign SymParenRight 17 18) ∷ (sign SymSemicolon 18 19) ∷ []

abbrev pub severity_dialect_tree : GlobalDirective
severity_dialect_tree =
    without_attributes (diagnostic_of (word (codes "bad") 11 14) (word (codes "x") 16 17) None)

-- var<private, read> p: i32;
abbrev pub template_dialect_tokens : List Token
template_dialect_tokens = (sign KwVar 0 3) ∷ (sign TemplateArgsStart 3 4)
    ∷ (word (codes "private") 4 11) ∷ (sign SymComma 11 12) ∷ (word (codes "read") 13 17)
    ∷ (sign TemplateArgsEnd 17 18) ∷ (word (codes "p") 19 20) ∷ (sign SymColon 20 21)
    ∷ (word (codes "i32") 22 25) ∷ (sign SymSemicolon 25 26) ∷ []

abbrev pub template_dialect_tree : Spanned GlobalDeclaration
template_dialect_tree = spanned (without_attributes (value_of (DeclarationKind.var_kind None)
    (codes "p", Some (type_expression (codes "i32") no_template)) None)) (span 0 26)

-- @const fn f() {}
abbrev pub keyword_dialect_tokens : List Token
keyword_dialect_tokens = (sign SymAttr 0 1) ∷ (sign KwConst 1 6) ∷ (sign KwFn 7 9)
    ∷ (word (codes "f") 10 11) ∷ (sign SymParenLeft 11 12) ∷ (sign SymParenRight 12 13)
    ∷ (sign SymBraceLeft 14 15) ∷ (sign SymBraceRight 15 16) ∷ []

abbrev pub keyword_dialect_fault : Fault
keyword_dialect_fault = record { kind = 3; texts = codes "const" ∷ []; span = span 1 6 }

-- @x struct S { a: b }
abbrev pub attribute_dialect_tokens : List Token
attribute_dialect_tokens = attribute_before_a_struct_tokens

abbrev pub attribute_dialect_fault : Fault
attribute_dialect_fault = record { kind = 3; texts = codes "struct" ∷ []; span = span 3 9 }
