use Rattle.std.proofs.Common.{◌≡◌, subst, IfOk, ◌++◌, codes, string_bytes}
use Rattle.std.specs.Fmt.{decimal}
use Rattle.wgsl_format_files.proofs.run.summary_of.Goals as goal

pub returns : goal.returns
returns c =
    let tally = c.args.tally in
    subst (λ words. IfOk c.format.result (λ text. string_bytes text
    ≡ decimal c.args.count ++ (codes " files, "
    ++ (decimal tally.changed ++ (words ++ (decimal tally.failed ++ codes " with errors\n"))))))
    c.changed_words-words.ensures c.format.ensures.ok
