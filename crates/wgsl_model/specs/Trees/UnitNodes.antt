-- Written by tools/tables/plain_nodes.py from crates/wgsl_model/nodes: the trees of units.
use Rattle.std.specs.Prelude.{ℕ, List, Option}
use Rattle.wgsl_model.specs.Trees.Spanned.{Spanned}
use Rattle.wgsl_model.specs.Trees.Attributed.{Attributed}
use Rattle.wgsl_model.specs.Trees.Attributes.{Attributes}
use Rattle.wgsl_model.specs.Trees.NamedValues.{DiagnosticSeverity}
use Rattle.wgsl_model.specs.Trees.Expressions.{TypeExpression}
use Rattle.wgsl_model.specs.Trees.Statements.{Declaration, CompoundStatement, ConstAssert}

-- `diagnostic(severity, rule_name);`: a severity and the name of a rule
pub record DiagnosticDirective : Type 0 where
  pub severity : DiagnosticSeverity
  pub rule_name : List ℕ

-- `enable extensions;`: the names of extensions
pub record EnableDirective : Type 0 where
  pub extensions : List (List ℕ)

-- `requires extensions;`: the names of extensions
pub record RequiresDirective : Type 0 where
  pub extensions : List (List ℕ)

-- a directive of a module, without its attributes
pub data UnattributedDirective : Type 0 where
  diagnostic : DiagnosticDirective → UnattributedDirective
  enable : EnableDirective → UnattributedDirective
  requires : RequiresDirective → UnattributedDirective

-- a directive of a module: its attributes, and what is after them
abbrev pub GlobalDirective : Type 0
GlobalDirective = Attributed UnattributedDirective

-- a member of a structure
pub record StructMember : Type 0 where
  pub attributes : Attributes
  pub ident : List ℕ
  pub ty : TypeExpression

-- a structure
pub record Struct : Type 0 where
  pub ident : List ℕ
  pub members : List (Spanned StructMember)

-- a further name for a type, `alias ident = ty;`
pub record TypeAlias : Type 0 where
  pub ident : List ℕ
  pub ty : TypeExpression

-- a parameter of a function
pub record FormalParameter : Type 0 where
  pub attributes : Attributes
  pub ident : List ℕ
  pub ty : TypeExpression

-- a function
pub record Function : Type 0 where
  pub ident : List ℕ
  pub parameters : List FormalParameter
  pub return_attributes : Attributes
  pub return_type : Option TypeExpression
  pub body : CompoundStatement

-- a declaration of a module, without its attributes
pub data UnattributedDeclaration : Type 0 where
  void : UnattributedDeclaration
  declaration : Declaration → UnattributedDeclaration
  type_alias : TypeAlias → UnattributedDeclaration
  structure : Struct → UnattributedDeclaration
  function : Function → UnattributedDeclaration
  const_assert : ConstAssert → UnattributedDeclaration

-- a declaration of a module: its attributes, and what is after them
abbrev pub GlobalDeclaration : Type 0
GlobalDeclaration = Attributed UnattributedDeclaration

-- a module: its directives, then its declarations
pub record TranslationUnit : Type 0 where
  pub global_directives : List GlobalDirective
  pub global_declarations : List (Spanned GlobalDeclaration)
