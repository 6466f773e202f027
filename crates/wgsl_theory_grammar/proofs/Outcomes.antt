-- The reader over the factored grammar: at most one tree, exactly what is derived, and true
-- outcomes.
use Rattle.std.proofs.Common.{[], ◌∷◌, refl}
use Rattle.grammar.proofs.Faults.Outcomes.{IsTested}
use Rattle.grammar.proofs.Words.{all_sentences}
use Rattle.wgsl_model.specs.Tokens.ClassTable.{SymAttr}
use Rattle.wgsl_model.specs.Grammar.Symbols.{Dialect.parsed, Dialect.recognized}
use Rattle.wgsl_theory_grammar.specs.Factored.{body, small_body}
use Rattle.wgsl_theory_grammar.specs.Apart.{apart, nowhere}
use Rattle.wgsl_theory_grammar.specs.Tables.{heights, rank_limit, tables}
use Rattle.wgsl_theory_grammar.proofs.Passes.{builds_hold, keeps_hold, passes, small_passes, within_hold}
use Rattle.wgsl_theory_grammar.proofs.Guards.{guarded, small_guarded}

pub tested : IsTested tables body rank_limit apart
tested = record {
  passes = passes;
  sentences = all_sentences heights body (builds_hold parsed);
  guarded = guarded;
  following = SymAttr ∷ [];
  within = within_hold;
  keeps = keeps_hold parsed;
  no_token = refl;
}

pub small_tested : IsTested tables small_body rank_limit nowhere
small_tested = record {
  passes = small_passes;
  sentences = all_sentences heights small_body (builds_hold recognized);
  guarded = small_guarded;
  following = SymAttr ∷ [];
  within = λ n. refl;
  keeps = keeps_hold recognized;
  no_token = refl;
}
