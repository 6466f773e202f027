use Rattle.std.proofs.Common.{rules, chars}
use Rattle.std.specs.Ordering.{nat_cmp}
use Rattle.std.proofs.lemmas.Fn.{always_returns_same}
use Rattle.wgsl_lex_comments.specs.declared.comments.Known.{Known}
use Rattle.wgsl_lex_comments.proofs.Commented.{found_at}
use Rattle.wgsl_lex_comments.proofs.comments.find.Goals as goal

pub returns-in-Ok : goal.returns-in-Ok
returns-in-Ok c =
    let facts = c.in-Ok.ensures in
    let by_start = facts.position (λ known. nat_cmp c.place-start.result known.comment.start)
    (always_returns_same _ _ _ (λ a r g called. (search rules, search rules))) in
    let d : Known = record { comment = record { start = 0; end = 0 }; following = 0 } in
    found_at (chars c.args.source.now) (chars c.args.text.now) c.args.known.now c.place-start.result
    c.in-Ok.at d c.requires.known c.place-start.ensures facts.bound (by_start d)
