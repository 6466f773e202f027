use Rattle.std.proofs.Common.{◌≤◌, ◌+◌, chars, length}
use denote.Text.{Utf8}
use denote.Shadow.{shadow}
use Rattle.wgsl_theory_grammar.proofs.Tokens.Cuts.{EndsWith}
use Rattle.wgsl_lex_comments.specs.Comments.{AreComments}
use Rattle.wgsl_lex_templates.specs.Kept.{BeginWith, held}
use Rattle.wgsl_lex_templates.specs.Lists.{TellLists}
use Rattle.wgsl_lex_templates.specs.Reached.{Reaches}
use Rattle.wgsl_lex_templates.proofs.reading.read.Given as goal

abbrev pub invariant-tokens : goal.invariant-tokens
invariant-tokens l = record {
  text : shadow (Utf8 l.rest);
  within : l.depth + length l.rest ≤ length l.text;
  some : l.initial.reads ≤ l.reads;
  few : l.reads + length l.rest ≤ l.initial.reads + length l.text;
  ends : EndsWith (chars l.text) (chars l.rest);
  lists : TellLists (length l.source) l.tried.lists.spans.items (chars l.rest);
  known : AreComments (chars l.source) l.comments.found.items;
  more : BeginWith l.initial.kept.pieces.items l.kept.pieces.items;
  reached : Reaches (length l.source) (chars l.text)
      (held l.kept.pieces.items (length l.initial.kept.pieces.items) (length l.kept.pieces.items))
      l.after_word l.depth (chars l.rest);
}

abbrev pub decreases-tokens : goal.decreases-tokens
decreases-tokens l = length l.rest
