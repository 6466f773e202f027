use Rattle.std.proofs.Common.{◌≡◌, ◌≤◌, length, map}
use Rattle.wgsl_span.specs.View.{spanned_view}
use Rattle.wgsl_tree_unit.specs.View.{global_declaration_view}
use Rattle.wgsl_read_cursor.specs.Reading.{state}
use Rattle.wgsl_read_unit.specs.Parts.{further_declarations_at}
use Rattle.wgsl_read_unit.proofs.unit.parse_further_declarations.Given as goal

abbrev pub invariant-declarations : goal.invariant-declarations
invariant-declarations l =
    record {
      whole : further_declarations_at (map (spanned_view global_declaration_view) l.declarations.items) (state l.tokens)
          ≡ further_declarations_at (map (spanned_view global_declaration_view) l.fn.some.items) (state l.fn.tokens);
      shorter : length (state l.tokens).rest ≤ length (state l.fn.tokens).rest;
    }

abbrev pub decreases-declarations : goal.decreases-declarations
decreases-declarations l = length (state l.tokens).rest
