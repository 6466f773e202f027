use Rattle.std.proofs.Common.{◌≡◌, length}
use Rattle.std.specs.List.{list_any}
use Rattle.wgsl_lexer.specs.TextTokens.{tokens_left}
use Rattle.wgsl_minify_files.specs.Kept.{is_name}
use Rattle.wgsl_minify_files.proofs.kept.any_is.Given as goal

-- the name is among the tokens that are left, if it is among all
abbrev pub invariant-tokens : goal.invariant-tokens
invariant-tokens l = list_any (is_name l.name) (tokens_left l.tokens) ≡ list_any (is_name l.name) (tokens_left l.fn.tokens)

abbrev pub decreases-tokens : goal.decreases-tokens
decreases-tokens l = length (tokens_left l.tokens)
