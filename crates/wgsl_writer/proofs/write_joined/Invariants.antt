use Rattle.std.proofs.Common.{take, Ok, ◌≡◌}
use Rattle.std.specs.Fmt.{DisplaysOnOk}
use Rattle.wgsl_writer.specs.Joined.{joined_output}
use Rattle.wgsl_writer.proofs.Joins.{before}
use Rattle.wgsl_writer.proofs.write_joined.Given as goal
use denote.Shadow.{shadow}
use denote.Text.{Utf8}

abbrev pub invariant-items : goal.invariant-items
invariant-items g l =
    (l.before ≡ before l.separator l.item-index)
    × shadow (Utf8 l.before)
    × DisplaysOnOk g.W.Write.write_str_gives l.initial.f (Ok tt)
    (joined_output g.T.Display.output l.separator (take l.item-index l.items)) l.f
