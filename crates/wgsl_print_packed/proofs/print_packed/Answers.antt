use Rattle.std.proofs.Common.{ℕ, List, [], ◌++◌, refl, sym, ap, ◌∙◌}
use Rattle.std.proofs.lemmas.List.{append-nil}
use Rattle.std.proofs.lemmas.Result.{MatchResult-weaker}
use Rattle.wgsl_model_packed.specs.Printing.{ended}
use Rattle.wgsl_print_packed.proofs.Printed.{same_prints}
use Rattle.wgsl_print_packed.proofs.print_packed.Goals as goal

pub returns-clause-printed : goal.returns-clause-printed
returns-clause-printed c =
    let printed = c.in_ok-print.ensures.printed in
    let first = printed.0.first in
    let whole = ap (λ (z : List ℕ). c.in_ok-printer.printer.text.items ++ z) (append-nil first) ∙ sym printed.0.wrote in
    MatchResult-weaker c.finish.result c.finish.ensures
    (λ bytes done.
    let last = same_prints _ (sym printed.1) (sym done.0) refl ended in
    let all = c.in_ok-printer.ensures.printed (first ++ []) (printed.0.prints [] last) in
    same_prints 0 refl refl (whole ∙ sym done.1) all)
    (λ error refused. tt)
