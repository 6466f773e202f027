-- The trees of modules, their directives and their declarations (WGSL, "Directives", "Structure
-- Types", "Functions").
use Rattle.wgsl_model.specs.Trees.Attributed.{Attributed, with_attributes}
-- names of UnitNodes, written by tools/tables/plain_nodes.py
pub use Rattle.wgsl_model.specs.Trees.UnitNodes.{
  DiagnosticDirective,
  EnableDirective,
  RequiresDirective,
  UnattributedDirective,
  UnattributedDirective.diagnostic,
  UnattributedDirective.enable,
  UnattributedDirective.requires,
  GlobalDirective,
  StructMember,
  Struct,
  TypeAlias,
  FormalParameter,
  Function,
  UnattributedDeclaration,
  UnattributedDeclaration.void,
  UnattributedDeclaration.declaration,
  UnattributedDeclaration.type_alias,
  UnattributedDeclaration.structure,
  UnattributedDeclaration.function,
  UnattributedDeclaration.const_assert,
  GlobalDeclaration,
  TranslationUnit,
}

-- a node after its attributes, as a declaration of its kind
abbrev pub as_declaration : {Node : Type 0} → (Node → UnattributedDeclaration) → Attributed Node → GlobalDeclaration
as_declaration kind a = with_attributes a.attributes (kind a.node)
