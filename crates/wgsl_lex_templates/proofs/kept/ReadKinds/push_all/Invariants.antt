-- What holds before each turn: the pieces that were added have the kinds before it.
use Rattle.std.proofs.Common.{◌≡◌, length, take}
use Rattle.wgsl_lex_token.specs.View.{classes}
use Rattle.wgsl_lex_templates.specs.Kept.{BeginWith}
use Rattle.wgsl_lex_templates.proofs.Readings.Pieces.{held_from}
use Rattle.wgsl_lex_templates.proofs.kept.ReadKinds.push_all.Given as goal

abbrev pub invariant-loop-kind : goal.invariant-loop-kind
invariant-loop-kind l =
    record {
      more : BeginWith l.fn.self.pieces.items l.self.pieces.items;
      held : held_from l.self.pieces.items (length l.fn.self.pieces.items) ≡ classes (take l.kind-index l.kinds);
    }
