use Rattle.std.proofs.Common.{◌≡◌, ◌+◌, false, nat_lt, length, sym, ◌∙◌, arith}
use Rattle.std.proofs.lemmas.Bool.Decides.{nat_tests}
use Rattle.wgsl_format_layout.proofs.Following.{several_at, none_several}
use Rattle.wgsl_format_layout.proofs.ahead.has_several.Goals as goal

pub returns-then-place-tokens : goal.returns-then-place-tokens
returns-then-place-tokens c = λ before n t ts f.
    c.begins_several.ensures ∙ several_at _ before c.args.place c.args.tokens.now n t ts c.if-place-tokens.true f

pub returns-else-place-tokens : goal.returns-else-place-tokens
returns-else-place-tokens c = λ before n t ts f.
    let near : nat_lt (c.args.place + 2) (length c.args.tokens.now) ≡ false = grind (arith, nat_tests) in
    near ∙ sym (none_several before c.args.place c.args.tokens.now n t ts c.requires c.if-place-tokens.false f)
