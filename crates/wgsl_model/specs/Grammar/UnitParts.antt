-- The trees that the rules of declarations and directives make, and the parts that these rules
-- share.
use Rattle.std.specs.Prelude.{ℕ, List, [], ◌∷◌, ◌++◌, Option, Some, None, codes}
use Rattle.grammar.specs.Tokens.{Token, Span}
use Rattle.grammar.specs.Grammar.{Grammar.symbol}
use Rattle.grammar.specs.Notation.{◌then◌, ◌▹◌, ◌◃◌}
use Rattle.wgsl_model.specs.Tokens.ClassTable.{SymArrow, SymColon}
use Rattle.wgsl_model.specs.Trees.Spanned.{Spanned, spanned}
use Rattle.wgsl_model.specs.Trees.Expressions.{ExpressionNode, TypeExpression}
use Rattle.wgsl_model.specs.Trees.Attributes.{Attributes}
use Rattle.wgsl_model.specs.Trees.Attributed.{Attributed}
use Rattle.wgsl_model.specs.Trees.Statements.{DeclarationKind, CompoundStatement, ConstAssert, declaration_of}
use Rattle.wgsl_model.specs.Trees.Units as tree
use Rattle.wgsl_model.specs.Trees.Units.{UnattributedDirective, StructMember, FormalParameter, Function, GlobalDeclaration, UnattributedDeclaration, as_declaration}
use Rattle.wgsl_model.specs.Grammar.Checks.{severity_of}
use Rattle.wgsl_model.specs.Grammar.TokenValues.{text_of}
use Rattle.wgsl_model.specs.Grammar.StatementParts.{attributes}
use Rattle.wgsl_model.specs.Grammar.Symbols.{Rule, Symbol.ident, Symbol.type_specifier}

-- A* Ident ":" TypeSpecifier
abbrev pub attributed_ident : Rule (Attributes × (Token × TypeExpression))
attributed_ident = attributes then symbol ident ◃ SymColon then symbol type_specifier

-- a member of a structure
abbrev pub member_of : Attributes × (Token × TypeExpression) → Span → Spanned StructMember
member_of (attributes, (name, ty)) span =
    spanned (record { attributes = attributes; ident = text_of name; ty = ty }) span

-- a parameter of a function
abbrev pub parameter_of : Attributes × (Token × TypeExpression) → FormalParameter
parameter_of (attributes, (name, ty)) = record { attributes = attributes; ident = text_of name; ty = ty }

-- the declaration of a value
abbrev pub value_of : DeclarationKind → List ℕ × Option TypeExpression → Option ExpressionNode → UnattributedDeclaration
value_of kind typed initializer = tree.declaration (declaration_of kind typed initializer)

-- `const_assert` after its attributes, as a declaration
abbrev pub assert_declaration : Attributed ConstAssert → GlobalDeclaration
assert_declaration = as_declaration tree.const_assert

-- `alias` with a name and a type
abbrev pub alias_of : Token × TypeExpression → UnattributedDeclaration
alias_of (name, ty) = tree.type_alias (record { ident = text_of name; ty = ty })

-- `struct` with a name and its members
abbrev pub struct_of : Token × List (Spanned StructMember) → UnattributedDeclaration
struct_of (name, members) = tree.structure (record { ident = text_of name; members = members })

-- "->" A* TypeSpecifier
abbrev pub return_part : Rule (Attributes × TypeExpression)
return_part = SymArrow ▹ attributes then symbol type_specifier

-- a function with its parameters, what it returns, and its body
abbrev pub function_parts : Token → List FormalParameter → Option (Attributes × TypeExpression)
    → CompoundStatement → Function
function_parts name parameters None block =
    record { ident = text_of name; parameters = parameters; return_attributes = []; return_type = None; body = block }
function_parts name parameters (Some (attributes, ty)) block =
    record {
      ident = text_of name;
      parameters = parameters;
      return_attributes = attributes;
      return_type = Some ty;
      body = block;
    }

-- a function as a declaration
abbrev pub function_of : Token → List FormalParameter → Option (Attributes × TypeExpression)
    → CompoundStatement → UnattributedDeclaration
function_of name parameters returned block = tree.function (function_parts name parameters returned block)

-- names as texts
abbrev pub texts_of : List Token → List (List ℕ)
texts_of [] = []
texts_of (t ∷ ts) = text_of t ∷ texts_of ts

-- `enable` with its names
abbrev pub enable_of : List Token → UnattributedDirective
enable_of names = tree.enable (record { extensions = texts_of names })

-- `requires` with its names
abbrev pub requires_of : List Token → UnattributedDirective
requires_of names = tree.requires (record { extensions = texts_of names })

-- the name of a rule: a name, or two with `.` between
abbrev pub rule_of : Token → Option Token → List ℕ
rule_of first None = text_of first
rule_of first (Some second) = text_of first ++ (codes "." ++ text_of second)

-- `diagnostic` with a severity and the name of a rule
abbrev pub diagnostic_of : Token → Token → Option Token → UnattributedDirective
diagnostic_of severity first second =
    tree.diagnostic (record { severity = severity_of severity; rule_name = rule_of first second })
