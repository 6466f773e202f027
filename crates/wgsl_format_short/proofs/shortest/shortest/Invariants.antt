use Rattle.std.proofs.Common.{◌≡◌, ℕ, ◌++◌, chars, length, string_bytes}
use Rattle.wgsl_lex_token.specs.View.{class_of_kind}
use Rattle.wgsl_lexer.specs.TextTokens.{tokens_left}
use Rattle.wgsl_model_short.specs.Shortest as model
use Rattle.wgsl_format_layout.specs.Left.{AreLeftFrom}
use Rattle.wgsl_format_short.proofs.shortest.shortest.Given as goal

abbrev pub invariant-tokens : goal.invariant-tokens
invariant-tokens l = record {
  left : (n : ℕ) × AreLeftFrom l.source n (tokens_left l.tokens);
  written : chars (string_bytes l.text)
      ++ model.joined (class_of_kind l.last) (model.token_pieces (chars l.source) (tokens_left l.tokens))
      ≡ model.shortest (chars l.source) (tokens_left l.initial.tokens);
}

abbrev pub decreases-tokens : goal.decreases-tokens
decreases-tokens l = length (tokens_left l.tokens)
