use Rattle.std.proofs.Common.{◌∙◌, ap, chars}
use Rattle.wgsl_model.specs.Tokens.Raw.{raw, raw_at}
use Rattle.wgsl_theory_grammar.proofs.Tokens.Bare.{bare_after_trivia}
use Rattle.wgsl_model.specs.Tokens.Trivia.{outside}
use Rattle.wgsl_lex_templates.proofs.reading.take.Goals as goal

pub returns-clause-value : goal.returns-clause-value
returns-clause-value c = c.scan.ensures.value ∙ ap raw c.in_ok-rest.ensures.rest
    ∙ ap raw_at (bare_after_trivia outside (chars c.args.text.now))
