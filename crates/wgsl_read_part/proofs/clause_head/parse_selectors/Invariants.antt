use Rattle.std.proofs.Common.{◌≡◌, ◌<◌, length, map}
use Rattle.wgsl_tree_simple.specs.View.{selector_view}
use Rattle.wgsl_theory_grammar.specs.Factored.{FactoredSymbol.further, Further.selectors}
use Rattle.wgsl_theory_grammar.specs.Reader.{reader}
use Rattle.wgsl_read_cursor.specs.Reading.{state}
use Rattle.wgsl_read_part.proofs.Selectors.{selectors_after}
use Rattle.wgsl_read_part.proofs.clause_head.parse_selectors.Given as goal

abbrev pub invariant-selectors : goal.invariant-selectors
invariant-selectors l =
    record {
      whole : selectors_after (map selector_view l.selectors.items) (state l.tokens)
          ≡ reader (further selectors) (state l.fn.tokens);
      shorter : length (state l.tokens).rest < length (state l.fn.tokens).rest;
    }

abbrev pub decreases-selectors : goal.decreases-selectors
decreases-selectors l = length (state l.tokens).rest
