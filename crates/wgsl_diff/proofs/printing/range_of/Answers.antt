use Rattle.std.proofs.Common.{◌≡◌, sym, ap, ◌∙◌, ◌++◌, codes, string_bytes, append_assoc}
use Rattle.std.proofs.lemmas.Result.{IfOk-weaker}
use Rattle.std.specs.Fmt.{decimal}
use Rattle.wgsl_diff.specs.Printing.{first_number}
use Rattle.wgsl_diff.proofs.printing.range_of.Goals as goal

pub returns : goal.returns
returns c = IfOk-weaker c.format.result _ _ (λ range told.
    let count = decimal c.args.count in
    let written : string_bytes range ≡ decimal c.first_number-first.result ++ (codes "," ++ count) = told in
    written ∙ ap (λ n. decimal n ++ (codes "," ++ count)) c.first_number-first.ensures
    ∙ sym (append_assoc (decimal (first_number c.args.before c.args.count)) (codes ",") count)) c.format.ensures.ok
