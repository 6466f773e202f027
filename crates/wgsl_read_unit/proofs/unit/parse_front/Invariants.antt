use Rattle.std.proofs.Common.{◌≡◌, ◌≤◌, length, map}
use Rattle.wgsl_tree_unit.specs.View.{global_directive_view}
use Rattle.wgsl_theory_grammar.specs.Factored.{FactoredSymbol.further, Further.front}
use Rattle.wgsl_theory_grammar.specs.Reader.{reader}
use Rattle.wgsl_read_cursor.specs.Reading.{state}
use Rattle.wgsl_read_unit.proofs.Front.{front_from}
use Rattle.wgsl_read_unit.proofs.unit.parse_front.Given as goal

abbrev pub invariant-directives : goal.invariant-directives
invariant-directives l =
    record {
      whole : front_from (map global_directive_view l.directives.items) (state l.tokens)
          ≡ reader (further front) (state l.fn.tokens);
      shorter : length (state l.tokens).rest ≤ length (state l.fn.tokens).rest;
    }

abbrev pub decreases-directives : goal.decreases-directives
decreases-directives l = length (state l.tokens).rest
