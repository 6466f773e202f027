-- What `==` of modules, of their directives and of their declarations returns.
use Rattle.std.specs.Prelude.{Bool}
use Rattle.wgsl_tree_unit.specs.declared.diagnostic.DiagnosticDirective.{DiagnosticDirective}
use Rattle.wgsl_tree_unit.specs.declared.extensions.EnableDirective.{EnableDirective}
use Rattle.wgsl_tree_unit.specs.declared.extensions.RequiresDirective.{RequiresDirective}
use Rattle.wgsl_tree_unit.specs.declared.directive.GlobalDirective.{GlobalDirective}
use Rattle.wgsl_tree_unit.specs.declared.type_alias.TypeAlias.{TypeAlias}
use Rattle.wgsl_tree_unit.specs.declared.structure.StructMember.{StructMember}
use Rattle.wgsl_tree_unit.specs.declared.structure.Struct.{Struct}
use Rattle.wgsl_tree_unit.specs.declared.function.FormalParameter.{FormalParameter}
use Rattle.wgsl_tree_unit.specs.declared.function.Function.{Function}
use Rattle.wgsl_tree_unit.specs.declared.global_declaration.GlobalDeclaration.{GlobalDeclaration}
use Rattle.wgsl_tree_unit.specs.declared.unit.TranslationUnit.{TranslationUnit}
use Rattle.wgsl_tree_unit.specs.contracts.diagnostic.DiagnosticDirectivePartialEq.TheImpl as diagnostic
use Rattle.wgsl_tree_unit.specs.contracts.extensions.EnableDirectivePartialEq.TheImpl as enable
use Rattle.wgsl_tree_unit.specs.contracts.extensions.RequiresDirectivePartialEq.TheImpl as requires
use Rattle.wgsl_tree_unit.specs.contracts.directive.GlobalDirectivePartialEq.TheImpl as directive
use Rattle.wgsl_tree_unit.specs.contracts.type_alias.TypeAliasPartialEq.TheImpl as type_alias
use Rattle.wgsl_tree_unit.specs.contracts.structure.StructMemberPartialEq.TheImpl as member
use Rattle.wgsl_tree_unit.specs.contracts.structure.StructPartialEq.TheImpl as structure
use Rattle.wgsl_tree_unit.specs.contracts.function.FormalParameterPartialEq.TheImpl as parameter
use Rattle.wgsl_tree_unit.specs.contracts.function.FunctionPartialEq.TheImpl as function
use Rattle.wgsl_tree_unit.specs.contracts.global_declaration.GlobalDeclarationPartialEq.TheImpl as declaration
use Rattle.wgsl_tree_unit.specs.contracts.unit.TranslationUnitPartialEq.TheImpl as unit

-- directives
abbrev pub equal_diagnostics : DiagnosticDirective → DiagnosticDirective → Bool
equal_diagnostics = (diagnostic.ghosts).eq

abbrev pub equal_enables : EnableDirective → EnableDirective → Bool
equal_enables = (enable.ghosts).eq

abbrev pub equal_requires : RequiresDirective → RequiresDirective → Bool
equal_requires = (requires.ghosts).eq

abbrev pub equal_directives : GlobalDirective → GlobalDirective → Bool
equal_directives = (directive.ghosts).eq

-- declarations
abbrev pub equal_type_aliases : TypeAlias → TypeAlias → Bool
equal_type_aliases = (type_alias.ghosts).eq

abbrev pub equal_members : StructMember → StructMember → Bool
equal_members = (member.ghosts).eq

abbrev pub equal_structs : Struct → Struct → Bool
equal_structs = (structure.ghosts).eq

abbrev pub equal_parameters : FormalParameter → FormalParameter → Bool
equal_parameters = (parameter.ghosts).eq

abbrev pub equal_functions : Function → Function → Bool
equal_functions = (function.ghosts).eq

abbrev pub equal_global_declarations : GlobalDeclaration → GlobalDeclaration → Bool
equal_global_declarations = (declaration.ghosts).eq

-- modules
abbrev pub equal_units : TranslationUnit → TranslationUnit → Bool
equal_units = (unit.ghosts).eq
