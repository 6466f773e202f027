use Rattle.std.proofs.Common.{◌++◌, append_assoc, ◌∙◌}
use Rattle.wgsl_model_packed.specs.Printing.{packed_number}
use Rattle.wgsl_print_packed.proofs.reading.split_span.Goals as goal

pub returns-in_err-end-clause-span : goal.returns-in_err-end-clause-span
returns-in_err-end-clause-span c = λ span left e.
    let one = c.in_ok-start.ensures.number span.start (packed_number span.end ++ left)
    (e ∙ append_assoc (packed_number span.start) (packed_number span.end) left) in
    absurd (c.in_err-end.ensures.number span.end left one.1)

pub returns-clause-span : goal.returns-clause-span
returns-clause-span c = λ span left e.
    let one = c.in_ok-start.ensures.number span.start (packed_number span.end ++ left)
    (e ∙ append_assoc (packed_number span.start) (packed_number span.end) left) in
    let two = c.in_ok-end.ensures.number span.end left one.1 in (one.0, two.0, two.1)
