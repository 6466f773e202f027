use Rattle.std.proofs.Common.{◌≡◌, map}
use Rattle.wgsl_lexer.specs.Given.{item_of}
use Rattle.wgsl_lexer.proofs.collect.collect_tokens.Given as goal

abbrev pub invariant-loop-item : goal.invariant-loop-item
invariant-loop-item g l = map item_of l.placed.items ≡ l.yielded
