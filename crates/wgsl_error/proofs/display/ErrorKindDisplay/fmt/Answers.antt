use Rattle.std.proofs.Common.{rules, sym, ◌∙◌, ap, ◌++◌, map, string_bytes}
use Rattle.std.proofs.Output.{has_written_append, has_written_of_eq}
use Rattle.wgsl_error.specs.Printing.{print_message, print_expected, print_error_kind}
use Rattle.wgsl_error.proofs.display.ErrorKindDisplay.fmt.Goals as goal

pub returns-in_ok-write_message-in-UnexpectedToken-clause-writes :
    goal.returns-in_ok-write_message-in-UnexpectedToken-clause-writes
returns-in_ok-write_message-in-UnexpectedToken-clause-writes g c = λ plain ok.
    let kind = c.args.self.now in
    let texts = map string_bytes c.in-UnexpectedToken.expected.items in
    let first = c.write_message.ensures plain (search rules) in
    has_written_of_eq _ _ _ _ _
    (ap (λ xs. print_message kind ++ print_expected (map string_bytes xs)) c.deref.ensures.value
    ∙ ap (λ k. print_message k ++ print_expected texts) c.in-UnexpectedToken.is
    ∙ ap print_error_kind (sym c.in-UnexpectedToken.is))
    (has_written_append _ _ _ _ _ _ first (c.write_expected.ensures first.plain ok))
