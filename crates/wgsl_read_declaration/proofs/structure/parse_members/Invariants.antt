use Rattle.std.proofs.Common.{◌≡◌, ◌<◌, length, map}
use Rattle.wgsl_span.specs.View.{spanned_view}
use Rattle.wgsl_tree_unit.specs.View.{member_view}
use Rattle.wgsl_theory_grammar.specs.Factored.{FactoredSymbol.further, Further.member_items}
use Rattle.wgsl_theory_grammar.specs.Reader.{reader}
use Rattle.wgsl_read_cursor.specs.Reading.{state}
use Rattle.wgsl_read_declaration.proofs.Turns.{members_from}
use Rattle.wgsl_read_declaration.proofs.structure.parse_members.Given as goal

abbrev pub invariant-members : goal.invariant-members
invariant-members l =
    record {
      whole : members_from (map (spanned_view member_view) l.members.items) (state l.tokens)
          ≡ reader (further member_items) (state l.fn.tokens);
      shorter : length (state l.tokens).rest < length (state l.fn.tokens).rest;
    }

abbrev pub decreases-members : goal.decreases-members
decreases-members l = length (state l.tokens).rest
