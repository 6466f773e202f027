use Rattle.std.proofs.Common.{refl}
use Rattle.wgsl_lex_scanner.proofs.Bytes.{chars-last_taken}
use Rattle.wgsl_lex_scanner.proofs.text.without_last.Goals as goal

pub returns : goal.returns
returns c =
    rw (c.as_str.ensures, ← c.chars-rest.ensures.rest)
    (chars-last_taken c.chars-rest.result.rest.now c.next_back.new.self.rest.now _ c.next_back.result
    (λ e. rw e refl) c.next_back.ensures.steps
    (rw c.chars-rest.ensures.rest c.utf8.text) (rw c.as_str.ensures at c.as_str.utf8))
