use Rattle.std.proofs.Common.{rules}
use Rattle.wgsl_print_packed.proofs.Numbers.{number_read_in}
use Rattle.wgsl_print_packed.proofs.reading.split_number.Goals as goal

pub returns-in-Some-clause-read : goal.returns-in-Some-clause-read
returns-in-Some-clause-read c =
    let parts = c.in-Some.ensures.cases in
    number_read_in c.args.form.now c.in-Some.bytes.now c.in-Some.left.now c.from_le_bytes.result parts.0 parts.1 parts.2
    (search rules) c.from_le_bytes.ensures
