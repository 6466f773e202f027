use Rattle.std.proofs.Common.{rules, ℕ, ◌+◌, ◌≡◌, sym, ◌∙◌, ap, List, ◌++◌, replicate}
use Rattle.std.proofs.Output.{has_written_append, has_written_of_eq}
use Rattle.std.proofs.lemmas.List.{append-nil, replicate-append-replicate}
use Rattle.std.proofs.lemmas.List.Folds.{concat-append}
use Rattle.std.specs.List.{concat}
use Rattle.wgsl_error.proofs.snippet.write_times.Goals as goal

once_more : (n : ℕ) (text : List ℕ) → concat (replicate n text) ++ text ≡ concat (replicate (n + 1) text)
once_more n text =
    ap (λ end. concat (replicate n text) ++ end) (sym (append-nil text))
    ∙ sym (concat-append (replicate n text) (replicate 1 text))
    ∙ ap concat (replicate-append-replicate n 1 text)

pub times-preserved : goal.times-preserved
times-preserved g c = λ plain ok.
    let before = c.times.invariant plain ok in
    has_written_of_eq _ _ _ _ _ (once_more c.times.counter c.args.text.now)
    (has_written_append _ _ _ _ _ _ before (c.in_ok-write_str.ensures.writes before.plain (search rules)))
