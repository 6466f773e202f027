use Rattle.std.proofs.Common.{sym, ◌∙◌, ap, ◌++◌, codes, string_bytes}
use Rattle.std.proofs.lemmas.List.{append_assoc}
use Rattle.std.proofs.Output.{has_written_of_eq}
use Rattle.wgsl_error.specs.Printing.{print_message}
use Rattle.wgsl_error.proofs.display.write_message.Goals as goal

pub returns-in-ExtraToken : goal.returns-in-ExtraToken
returns-in-ExtraToken g c = λ plain ok.
    let token = string_bytes c.in-ExtraToken.token in
    has_written_of_eq _ _ _ _ _
    (ap (λ rest. codes "extra token `" ++ rest) (sym (append_assoc token (codes "`") (codes " at the end of the file")))
    ∙ ap print_message (sym c.in-ExtraToken.is))
    (c.write-in-ExtraToken.ensures.writes plain ok)

pub returns-in-Attribute : goal.returns-in-Attribute
returns-in-Attribute g c = λ plain ok.
    let name = c.in-Attribute.name.now in
    let problem = c.in-Attribute.problem.now in
    let tail = codes " attribute, " in
    has_written_of_eq _ _ _ _ _
    (ap (λ rest. codes "invalid `" ++ rest) (sym (append_assoc (name ++ codes "`") tail problem
    ∙ append_assoc name (codes "`") (tail ++ problem)))
    ∙ ap print_message (sym c.in-Attribute.is))
    (c.write-in-Attribute.ensures.writes plain ok)
