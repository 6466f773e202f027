use Rattle.std.proofs.Common.{◌≤◌, ◌+◌, ◌*◌, chars, length}
use denote.Text.{Utf8}
use denote.Shadow.{shadow}
use Rattle.wgsl_lex_comments.specs.Comments.{AreComments}
use Rattle.wgsl_lex_templates.specs.Findings.{AreRight}
use Rattle.wgsl_lex_templates.proofs.TextLists.Listed.{Done}
use Rattle.wgsl_lex_templates.proofs.templates.discover.Given as goal

abbrev pub invariant-characters : goal.invariant-characters
invariant-characters l = record {
  text : shadow (Utf8 l.left);
  done : Done (length l.source) (chars l.source) (chars l.left) l.tried.lists.spans.items l.attempts;
  found : length l.tried.lists.spans.items ≤ l.attempts;
  reads : l.reads ≤ l.attempts * (length l.source + 1);
  known : AreComments (chars l.source) l.comments.found.items;
  right : AreRight (length l.source) (chars l.source) l.kept.pieces.items l.tried.findings.entries.items;
  each : 2 * length l.tried.lists.spans.items ≤ l.reads;
}

abbrev pub decreases-characters : goal.decreases-characters
decreases-characters l = length l.left
