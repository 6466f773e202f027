-- Written by tools/tables/node_lists.py from crates/wgsl_model/nodes: lists of attributes by
-- variants.
use Rattle.std.specs.Prelude.{Option, Some, None}
use Rattle.wgsl_tree_node.specs.Parts.{AttributeList}
use Rattle.wgsl_tree_unit.specs.declared.directive.GlobalDirective.{GlobalDirective}
use Rattle.wgsl_tree_unit.specs.declared.directive.GlobalDirective.TheVariants as directive
use Rattle.wgsl_tree_unit.specs.declared.global_declaration.GlobalDeclaration.{GlobalDeclaration}
use Rattle.wgsl_tree_unit.specs.declared.global_declaration.GlobalDeclaration.TheVariants as declaration

-- the list of a directive, if it has attributes
abbrev pub directive_list : GlobalDirective → Option AttributeList
directive_list (directive.Diagnostic node) = Some node.attributes
directive_list (directive.Enable node) = Some node.attributes
directive_list (directive.Requires node) = Some node.attributes

-- it with another list in place of its own
abbrev pub directive_with_list : GlobalDirective → AttributeList → GlobalDirective
directive_with_list (directive.Diagnostic node) list =
    directive.Diagnostic (record node { attributes = list })
directive_with_list (directive.Enable node) list =
    directive.Enable (record node { attributes = list })
directive_with_list (directive.Requires node) list =
    directive.Requires (record node { attributes = list })

-- the list of a declaration, if it has attributes
abbrev pub declaration_list : GlobalDeclaration → Option AttributeList
declaration_list declaration.Void = None
declaration_list (declaration.Declaration node) = Some node.attributes
declaration_list (declaration.TypeAlias node) = Some node.attributes
declaration_list (declaration.Struct node) = Some node.attributes
declaration_list (declaration.Function node) = Some node.attributes
declaration_list (declaration.ConstAssert node) = Some node.attributes

-- it with another list in place of its own
abbrev pub declaration_with_list : GlobalDeclaration → AttributeList → GlobalDeclaration
declaration_with_list declaration.Void list = declaration.Void
declaration_with_list (declaration.Declaration node) list =
    declaration.Declaration (record node { attributes = list })
declaration_with_list (declaration.TypeAlias node) list =
    declaration.TypeAlias (record node { attributes = list })
declaration_with_list (declaration.Struct node) list =
    declaration.Struct (record node { attributes = list })
declaration_with_list (declaration.Function node) list =
    declaration.Function (record node { attributes = list })
declaration_with_list (declaration.ConstAssert node) list =
    declaration.ConstAssert (record node { attributes = list })
