use Rattle.wgsl_lexer.specs.TextTokens.{tokens_left, ending_left}
use Rattle.wgsl_read_nesting.proofs.FirstDeeper.{found}
use Rattle.wgsl_read_nesting.proofs.deeper.first_deeper.Goals as goal

pub returns-clause-value : goal.returns-clause-value
returns-clause-value c =
    let tokens = c.in_ok-tokens.tokens in (
      tokens_left tokens,
      ending_left tokens,
      c.in_ok-tokens.ensures,
      found c.args.depth (tokens_left tokens) _ c.in_ok-first_of.ensures,
    )
