use Rattle.std.proofs.Common.{◌≡◌, ◌≤◌, length}
use Rattle.grammar.specs.States.{next_start}
use Rattle.wgsl_theory_grammar.specs.Reader.{reader}
use Rattle.wgsl_theory_grammar.specs.Factored.{FactoredSymbol.further, Further.attribute_list}
use Rattle.wgsl_tree_attribute.specs.View.{attributes_view}
use Rattle.wgsl_read_cursor.specs.Reading.{state}
use Rattle.wgsl_read_attribute.specs.Rules.{attributes_from}
use Rattle.wgsl_read_attribute.proofs.attributes.parse_attributes.Given as goal

abbrev pub invariant-attributes : goal.invariant-attributes
invariant-attributes l =
    record {
      whole : attributes_from (next_start (state l.fn.tokens)) (attributes_view l.attributes.items)
          (state l.tokens) ≡ reader (further attribute_list) (state l.fn.tokens);
      shorter : length (state l.tokens).rest ≤ length (state l.fn.tokens).rest;
    }

abbrev pub decreases-attributes : goal.decreases-attributes
decreases-attributes l = length (state l.tokens).rest
