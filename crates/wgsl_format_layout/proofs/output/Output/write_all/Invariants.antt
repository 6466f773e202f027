use Rattle.wgsl_model_tidy.specs.Open.{LayoutState}
use Rattle.wgsl_model_tidy.specs.LaidOut.{Spot}
use Rattle.wgsl_format_layout.specs.Spots.{IsNext, HasUpTo}
use Rattle.wgsl_format_layout.specs.declared.marks.Marks.{Marks}
use Rattle.wgsl_format_layout.proofs.output.Output.write_all.Given as goal

abbrev pub invariant-tokens : goal.invariant-tokens
invariant-tokens l = (spot : Spot) (marks : Marks) (after : LayoutState)
    → (n : IsNext l.source l.tokens 0 l.byte l.fn.self spot marks after)
    → HasUpTo l.source l.tokens l.byte l.fn.self spot marks after n.left l.place l.to l.self
