use Rattle.std.proofs.Common.{Some, Ok, replicate}
use Rattle.std.specs.List.{concat}
use Rattle.std.specs.Fmt.{DisplaysOnOk}
use Rattle.wgsl_error.proofs.snippet.write_times.Given as goal

abbrev pub invariant-times : goal.invariant-times
invariant-times g l = DisplaysOnOk g.W.Write.write_str_gives l.initial.f (Ok tt)
    (Some (concat (replicate l.counter l.text))) l.f
