-- What holds before each turn: what was put into the list and what is left may replace the whole.
use Rattle.std.proofs.Common.{◌++◌, length}
use Rattle.wgsl_lex_token.specs.View.{classes}
use Rattle.wgsl_lex_templates.specs.Shortened.{MayReplace}
use Rattle.wgsl_lex_templates.proofs.shortened.shorten.Given as goal

abbrev pub invariant-kinds : goal.invariant-kinds
invariant-kinds l = MayReplace (classes l.short.items ++ classes l.left) (classes l.fn.kinds)

abbrev pub decreases-kinds : goal.decreases-kinds
decreases-kinds l = length (classes l.left)
