use Rattle.std.proofs.Common.{chars, ◌∙◌}
use Rattle.wgsl_model.specs.Tokens.Raw.{front}
use Rattle.wgsl_lex_scanner.proofs.Bytes.{rest-within, rest-boundary, front-bytes, chars_of}
use Rattle.wgsl_lex_scanner.proofs.text.before.Goals as goal

pub overflow_sub-text : goal.overflow_sub-text
overflow_sub-text c = rest-within c.args.text.now c.args.rest.now
    (front (chars c.args.text.now) (chars c.args.rest.now)) c.utf8.text c.utf8.rest c.requires

pub range-requires-clause-end_boundary : goal.range-requires-clause-end_boundary
range-requires-clause-end_boundary c = rest-boundary c.args.text.now c.args.rest.now
    (front (chars c.args.text.now) (chars c.args.rest.now)) c.utf8.text c.utf8.rest c.requires

pub returns : goal.returns
returns c = record {
  value = chars_of c.range.result.now (front (chars c.args.text.now) (chars c.args.rest.now))
      c.range.utf8 (c.range.ensures.value ∙ front-bytes c.args.text.now c.args.rest.now
      (front (chars c.args.text.now) (chars c.args.rest.now)) c.utf8.text c.utf8.rest c.requires);
}
