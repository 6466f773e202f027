-- The tests that the tables pass for the rules without checks.
use Rattle.std.proofs.Common.{◌≡◌, ◌≤◌, true, [], ◌∷◌, inl, refl, arith}
use Rattle.grammar.specs.Tables.{subset, nullable, first, continuations, decides, spans_tokens, left_rank, all_ranks, Passes}
use Rattle.grammar.specs.Anchors.{keeps_body_apart}
use Rattle.grammar.proofs.Faults.First.{IsGuarded}
use Rattle.grammar.proofs.Faults.Outcomes.{IsTested}
use Rattle.grammar.proofs.Words.{builds, all_sentences}
use Rattle.wgsl_model.specs.Tokens.ClassTable.{SymAttr}
use Rattle.wgsl_model.specs.Grammar.Symbols.{Dialect, Dialect.parsed, Dialect.recognized, Symbol.ident}
use Rattle.wgsl_theory_grammar.specs.Factored.{Further.components, FactoredSymbol, FactoredSymbol.of, FactoredSymbol.further}
use Rattle.wgsl_theory_grammar.specs.Apart.{nowhere}
use Rattle.wgsl_theory_grammar.specs.Tables.{firsts, empties, mores, ranks, heights, rank_limit, tables}
use Rattle.wgsl_theory_grammar.proofs.Passes.{small_passes}
use Rattle.wgsl_theory_grammar.proofs.Outcomes.{small_tested}
use Rattle.wgsl_theory_grammar.specs.Unchecked.{syntax_body, unchecked_body}

begins_hold : (n : FactoredSymbol) → subset (first tables (syntax_body n)) (firsts n) ≡ true
begins_hold (of ident) = refl
begins_hold (of n) = refl
begins_hold (further components) = refl
begins_hold (further x) = refl

empty_hold : (n : FactoredSymbol) → nullable tables (syntax_body n) ≡ empties n
empty_hold (of ident) = refl
empty_hold (of n) = refl
empty_hold (further components) = refl
empty_hold (further x) = refl

more_hold : (n : FactoredSymbol) → subset (continuations tables (syntax_body n)) (mores n) ≡ true
more_hold (of ident) = refl
more_hold (of n) = refl
more_hold (further components) = refl
more_hold (further x) = refl

one_hold : (n : FactoredSymbol) → decides tables (syntax_body n) ≡ true
one_hold (of ident) = refl
one_hold (of n) = refl
one_hold (further components) = refl
one_hold (further x) = refl

spans_hold : (n : FactoredSymbol) → spans_tokens tables (syntax_body n) ≡ true
spans_hold (of ident) = refl
spans_hold (of n) = refl
spans_hold (further components) = refl
spans_hold (further x) = refl

rank_hold : (n : FactoredSymbol) → left_rank tables (syntax_body n) ≤ ranks n
rank_hold (of ident) = omega arith
rank_hold (of n) = omega arith
rank_hold (further components) = omega arith
rank_hold (further x) = omega arith

ranks_hold : (n : FactoredSymbol) → all_ranks tables (syntax_body n) ≤ rank_limit
ranks_hold (of ident) = omega arith
ranks_hold (of n) = omega arith
ranks_hold (further components) = omega arith
ranks_hold (further x) = omega arith

builds_hold : (n : FactoredSymbol) → builds heights (heights n) (syntax_body n) ≡ true
builds_hold (of ident) = refl
builds_hold (of n) = refl
builds_hold (further components) = refl
builds_hold (further x) = refl

keeps_hold : (n : FactoredSymbol) → keeps_body_apart (SymAttr ∷ []) (syntax_body n) ≡ true
keeps_hold (of ident) = refl
keeps_hold (of n) = refl
keeps_hold (further components) = refl
keeps_hold (further x) = refl

guarded : IsGuarded tables syntax_body nowhere
guarded (of ident) = inl (λ v s. refl)
guarded (of n) = inl (λ v s. refl)
guarded (further components) = inl (λ v s. refl)
guarded (further x) = inl (λ v s. refl)

syntax_passes : Passes tables syntax_body rank_limit
syntax_passes = record {
  begins = begins_hold;
  empty = empty_hold;
  more = more_hold;
  one = one_hold;
  spans = spans_hold;
  rank = rank_hold;
  ranks = ranks_hold;
}

syntax_tested : IsTested tables syntax_body rank_limit nowhere
syntax_tested = record {
  passes = syntax_passes;
  sentences = all_sentences heights syntax_body builds_hold;
  guarded = guarded;
  following = SymAttr ∷ [];
  within = λ n. refl;
  keeps = keeps_hold;
  no_token = refl;
}

-- in either dialect
pub unchecked_passes : (L : Dialect) → Passes tables (unchecked_body L) rank_limit
unchecked_passes parsed = syntax_passes
unchecked_passes recognized = small_passes

pub unchecked_tested : (L : Dialect) → IsTested tables (unchecked_body L) rank_limit nowhere
unchecked_tested parsed = syntax_tested
unchecked_tested recognized = small_tested
