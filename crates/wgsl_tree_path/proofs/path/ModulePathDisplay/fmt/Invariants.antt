use Rattle.std.proofs.Common.{Some, Ok, ◌∷◌, map, string_bytes, take, codes}
use Rattle.std.specs.Fmt.{DisplaysOnOk}
use Rattle.wgsl_model.specs.Trees.Paths.{origin_text}
use Rattle.wgsl_model.specs.Printed.Joining.{joined}
use Rattle.wgsl_tree_path.specs.View.{origin_view}
use Rattle.wgsl_tree_path.proofs.path.ModulePathDisplay.fmt.Given as goal

abbrev pub invariant-components : goal.invariant-components
invariant-components g l = DisplaysOnOk g.W.Write.write_str_gives l.fn.f (Ok tt)
    (Some (joined (codes "::") (origin_text (origin_view l.self.origin)
    ∷ map string_bytes (take l.component-index l.self.components.items)))) l.f
