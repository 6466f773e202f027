use Rattle.std.proofs.Common.{Some, Ok}
use Rattle.std.specs.Fmt.{DisplaysOnOk}
use Rattle.wgsl_model.specs.Trees.Paths.{relative, origin_text}
use Rattle.wgsl_tree_path.proofs.path.write_supers.Given as goal

abbrev pub invariant-levels : goal.invariant-levels
invariant-levels g l = DisplaysOnOk g.W.Write.write_str_gives l.fn.f (Ok tt)
    (Some (origin_text (relative l.counter))) l.f
