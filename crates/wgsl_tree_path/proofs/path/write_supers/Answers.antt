use Rattle.std.proofs.Common.{true, refl, sym, arith}
use Rattle.std.proofs.Output.{has_written_append, has_written_of_eq}
use Rattle.wgsl_tree_path.proofs.Supers.{one_super_more}
use Rattle.wgsl_tree_path.proofs.path.write_supers.Goals as goal

pub levels-preserved : goal.levels-preserved
levels-preserved g c = λ plain ok.
    let before = c.levels.invariant plain (refl {a = true}) in
    has_written_of_eq _ _ _ _ _ (sym (one_super_more c.levels.counter (omega arith)))
    (has_written_append _ _ _ _ _ _ before (c.in_ok-write_str-2.ensures.writes before.plain (refl {a = true})))
