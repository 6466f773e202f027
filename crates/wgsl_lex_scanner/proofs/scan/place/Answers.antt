use Rattle.std.proofs.Common.{sym, ap, ◌-◌, ◌∙◌}
use Rattle.wgsl_lex_scanner.proofs.Bytes.{length-chars}
use Rattle.wgsl_lex_scanner.proofs.scan.place.Goals as goal

pub returns : goal.returns
returns c = c.saturating_sub.ensures ∙ ap (λ n. c.args.total - n) (sym (length-chars c.args.rest.now c.utf8.rest))
