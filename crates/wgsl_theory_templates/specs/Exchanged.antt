-- Tokens that may replace others.
use Rattle.std.specs.Prelude.{◌↔◌, List, ◌++◌}
use Rattle.grammar.specs.Tokens.{Token}
use Rattle.wgsl_theory_grammar.proofs.Tokens.Decided.{IsList}

-- wherever some tokens are in a list of expressions, the others may
abbrev pub Exchanged : List Token → List Token → Type 0
Exchanged us vs = (before after : List Token) → IsList (before ++ (us ++ after)) ↔ IsList (before ++ (vs ++ after))
