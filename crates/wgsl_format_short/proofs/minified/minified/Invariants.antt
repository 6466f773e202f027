use Rattle.std.proofs.Common.{◌≡◌, ℕ, ◌++◌, chars, drop, length, string_bytes}
use Rattle.wgsl_lex_token.specs.View.{class_of_kind}
use Rattle.wgsl_lexer.specs.TextTokens.{tokens_left}
use Rattle.wgsl_model_short.specs.Respelled as model
use Rattle.wgsl_model_short.specs.Shortest.{joined}
use Rattle.wgsl_format_layout.specs.Left.{AreLeftFrom}
use Rattle.wgsl_format_short.proofs.minified.minified.Given as goal

abbrev pub invariant-tokens : goal.invariant-tokens
invariant-tokens l = record {
  left : (n : ℕ) × AreLeftFrom l.source n (tokens_left l.tokens);
  next : tokens_left l.next ≡ drop 1 (tokens_left l.tokens);
  after : tokens_left l.after ≡ drop 1 (tokens_left l.next);
  written : chars (string_bytes l.text)
      ++ joined (class_of_kind l.last) (model.without_needless (λ p. p.class) (class_of_kind l.before)
      (model.short_pieces (chars l.source) (tokens_left l.tokens)))
      ≡ model.minified (chars l.source) (tokens_left l.initial.tokens);
}

abbrev pub decreases-tokens : goal.decreases-tokens
decreases-tokens l = length (tokens_left l.tokens)
