use Rattle.std.proofs.Common.{◌≡◌, map, take}
use Rattle.std.specs.List.{flat_map}
use Rattle.wgsl_span.specs.View.{spanned_view}
use Rattle.wgsl_tree_unit.specs.View.{global_declaration_view}
use Rattle.wgsl_minify.specs.Hosts.{host_name}
use Rattle.wgsl_minify.proofs.hosts.host_names.Given as goal

-- the names of the declarations so far
abbrev pub invariant-declarations : goal.invariant-declarations
invariant-declarations l = map (λ name. name.now) l.names.items
    ≡ flat_map (λ d. host_name d.node.attributes d.node.node)
    (map (spanned_view global_declaration_view) (take l.declaration-index l.declaration-items))
