use Rattle.std.proofs.Common.{◌≡◌, ◌≤◌, length, map}
use Rattle.wgsl_tree_unit.specs.View.{parameter_view}
use Rattle.wgsl_theory_grammar.specs.Factored.{FactoredSymbol.further, Further.parameter_rest}
use Rattle.wgsl_theory_grammar.specs.Reader.{reader}
use Rattle.wgsl_read_cursor.specs.Reading.{state}
use Rattle.wgsl_read_unit.proofs.Turns.{parameters_from}
use Rattle.wgsl_read_unit.proofs.function.parse_parameters.Given as goal

abbrev pub invariant-parameters : goal.invariant-parameters
invariant-parameters l =
    record {
      whole : parameters_from (map parameter_view l.parameters.items) (state l.tokens)
          ≡ reader (further parameter_rest) (state l.fn.tokens);
      shorter : length (state l.tokens).rest ≤ length (state l.fn.tokens).rest;
    }

abbrev pub decreases-parameters : goal.decreases-parameters
decreases-parameters l = length (state l.tokens).rest
