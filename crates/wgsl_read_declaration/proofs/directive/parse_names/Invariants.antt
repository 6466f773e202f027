use Rattle.std.proofs.Common.{◌≡◌, ◌<◌, length, map}
use Rattle.std.specs.Prelude.{string_bytes}
use Rattle.wgsl_read_cursor.specs.Reading.{state}
use Rattle.wgsl_read_declaration.specs.Parts.{names_at}
use Rattle.wgsl_read_declaration.proofs.Names.{names_from}
use Rattle.wgsl_read_declaration.proofs.directive.parse_names.Given as goal

abbrev pub invariant-names : goal.invariant-names
invariant-names l =
    record {
      whole : names_from (map string_bytes l.names.items) (state l.tokens) ≡ names_at (state l.fn.tokens);
      shorter : length (state l.tokens).rest < length (state l.fn.tokens).rest;
    }

abbrev pub decreases-names : goal.decreases-names
decreases-names l = length (state l.tokens).rest
