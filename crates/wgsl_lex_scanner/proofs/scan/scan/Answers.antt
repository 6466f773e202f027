use Rattle.std.proofs.Common.{chars, sym, ◌∙◌, ap}
use Rattle.wgsl_model.specs.Tokens.Raw.{raw_at}
use Rattle.wgsl_lex_scanner.proofs.Front.{raw_at-scanned}
use Rattle.wgsl_lex_scanner.proofs.scan.scan.Goals as goal

pub returns-clause-value : goal.returns-clause-value
returns-clause-value c = c.scan_at.ensures.value
    ∙ sym (raw_at-scanned (chars c.after_trivia.result.now)) ∙ ap raw_at c.after_trivia.ensures.rest
