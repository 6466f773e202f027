use Rattle.std.proofs.Common.{◌≡◌, [], max, false, length}
use Rattle.wgsl_read_nesting.specs.Nesting.{deepest}
use Rattle.wgsl_read_nesting.specs.Effects.{token_classes}
use Rattle.wgsl_read_nesting.proofs.depth.nesting_of.Given as goal

abbrev pub invariant-tokens : goal.invariant-tokens
invariant-tokens l = max l.deepest (deepest l.after_operand l.opened (token_classes l.tokens))
    ≡ deepest false [] (token_classes l.fn.tokens)

abbrev pub decreases-tokens : goal.decreases-tokens
decreases-tokens l = length (token_classes l.tokens)
