-- The tests that the factored tables pass, for the grammar as it is and where a text is recognised
-- alone.
use Rattle.std.proofs.Common.{◌≡◌, ◌≤◌, true, [], ◌∷◌, inl, inr, refl, arith}
use Rattle.grammar.specs.Tables.{subset, nullable, first, continuations, decides, spans_tokens, left_rank, all_ranks, Passes}
use Rattle.grammar.specs.Anchors.{IsAnchored, keeps_body_apart}
use Rattle.wgsl_model.specs.Tokens.ClassTable.{SymAttr, KwDiagnostic, KwVar, ReservedWord}
use Rattle.wgsl_model.specs.Grammar.Symbols.{Dialect, Dialect.parsed, Dialect.recognized, Symbol.ident, Symbol.attribute, Symbol.var_template, Symbol.diagnostic_severity}
use Rattle.wgsl_theory_grammar.specs.Factored.{Further.components, Further.summands, FactoredSymbol, FactoredSymbol.of, FactoredSymbol.further, factored, body, small_body}
use Rattle.wgsl_theory_grammar.specs.Apart.{apart}
use Rattle.wgsl_theory_grammar.specs.Tables.{firsts, empties, mores, ranks, heights, rank_limit, tables}
use Rattle.grammar.proofs.Words.{builds}

begins_hold : (L : Dialect) (n : FactoredSymbol) → subset (first tables (factored L n)) (firsts n) ≡ true
begins_hold parsed (of ident) = refl
begins_hold recognized (of ident) = refl
begins_hold L (of n) = refl
begins_hold parsed (further summands) = refl
begins_hold recognized (further summands) = refl
begins_hold L (further x) = refl

empty_hold : (L : Dialect) (n : FactoredSymbol) → nullable tables (factored L n) ≡ empties n
empty_hold parsed (of ident) = refl
empty_hold recognized (of ident) = refl
empty_hold L (of n) = refl
empty_hold parsed (further summands) = refl
empty_hold recognized (further summands) = refl
empty_hold L (further x) = refl

more_hold : (L : Dialect) (n : FactoredSymbol) → subset (continuations tables (factored L n)) (mores n) ≡ true
more_hold parsed (of ident) = refl
more_hold recognized (of ident) = refl
more_hold L (of n) = refl
more_hold parsed (further summands) = refl
more_hold recognized (further summands) = refl
more_hold L (further x) = refl

one_hold : (L : Dialect) (n : FactoredSymbol) → decides tables (factored L n) ≡ true
one_hold parsed (of ident) = refl
one_hold recognized (of ident) = refl
one_hold L (of n) = refl
one_hold parsed (further summands) = refl
one_hold recognized (further summands) = refl
one_hold L (further x) = refl

spans_hold : (L : Dialect) (n : FactoredSymbol) → spans_tokens tables (factored L n) ≡ true
spans_hold parsed (of ident) = refl
spans_hold recognized (of ident) = refl
spans_hold L (of n) = refl
spans_hold parsed (further summands) = refl
spans_hold recognized (further summands) = refl
spans_hold L (further x) = refl

rank_hold : (L : Dialect) (n : FactoredSymbol) → left_rank tables (factored L n) ≤ ranks n
rank_hold parsed (of ident) = omega arith
rank_hold recognized (of ident) = omega arith
rank_hold L (of n) = omega arith
rank_hold parsed (further summands) = omega arith
rank_hold recognized (further summands) = omega arith
rank_hold L (further x) = omega arith

ranks_hold : (L : Dialect) (n : FactoredSymbol) → all_ranks tables (factored L n) ≤ rank_limit
ranks_hold parsed (of ident) = omega arith
ranks_hold recognized (of ident) = omega arith
ranks_hold L (of n) = omega arith
ranks_hold parsed (further summands) = omega arith
ranks_hold recognized (further summands) = omega arith
ranks_hold L (further x) = omega arith

pub builds_hold : (L : Dialect) (n : FactoredSymbol) → builds heights (heights n) (factored L n) ≡ true
builds_hold parsed (of ident) = refl
builds_hold recognized (of ident) = refl
builds_hold L (of n) = refl
builds_hold parsed (further summands) = refl
builds_hold recognized (further summands) = refl
builds_hold L (further x) = refl

pub keeps_hold : (L : Dialect) (n : FactoredSymbol) → keeps_body_apart (SymAttr ∷ []) (factored L n) ≡ true
keeps_hold parsed (of ident) = refl
keeps_hold recognized (of ident) = refl
keeps_hold L (of n) = refl
keeps_hold parsed (further summands) = refl
keeps_hold recognized (further summands) = refl
keeps_hold L (further x) = refl

pub dialect_passes : (L : Dialect) → Passes tables (factored L) rank_limit
dialect_passes L = record {
  begins = begins_hold L;
  empty = empty_hold L;
  more = more_hold L;
  one = one_hold L;
  spans = spans_hold L;
  rank = rank_hold L;
  ranks = ranks_hold L;
}

pub passes : Passes tables body rank_limit
passes = dialect_passes parsed

pub small_passes : Passes tables small_body rank_limit
small_passes = dialect_passes recognized

pub within_hold : (n : FactoredSymbol) → subset (apart n) (SymAttr ∷ []) ≡ true
within_hold (of ident) = refl
within_hold (of n) = refl
within_hold (further components) = refl
within_hold (further x) = refl

pub ident_anchored : IsAnchored body (ReservedWord ∷ []) (SymAttr ∷ []) (of ident)
ident_anchored (of ident) = inr (refl, refl)
ident_anchored (of n) = inl refl
ident_anchored (further components) = inl refl
ident_anchored (further x) = inl refl

pub severity_anchored : IsAnchored body (KwDiagnostic ∷ []) (SymAttr ∷ []) (of diagnostic_severity)
severity_anchored (of diagnostic_severity) = inr (refl, refl)
severity_anchored (of ident) = inl refl
severity_anchored (of n) = inl refl
severity_anchored (further components) = inl refl
severity_anchored (further x) = inl refl

pub attribute_anchored : IsAnchored body (SymAttr ∷ []) ([]) (of attribute)
attribute_anchored (of attribute) = inr (refl, refl)
attribute_anchored (of ident) = inl refl
attribute_anchored (of n) = inl refl
attribute_anchored (further components) = inl refl
attribute_anchored (further x) = inl refl

pub var_anchored : IsAnchored body (KwVar ∷ []) (SymAttr ∷ []) (of var_template)
var_anchored (of var_template) = inr (refl, refl)
var_anchored (of ident) = inl refl
var_anchored (of n) = inl refl
var_anchored (further components) = inl refl
var_anchored (further x) = inl refl
