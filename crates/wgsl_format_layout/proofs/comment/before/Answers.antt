use Rattle.std.proofs.Common.{◌∙◌}
use Rattle.wgsl_lex_scanner.proofs.Bytes.{rest-within, rest-boundary, front-bytes, chars_of}
use Rattle.wgsl_format_layout.proofs.comment.before.Goals as goal

pub overflow_sub-text : goal.overflow_sub-text
overflow_sub-text c = rest-within c.args.text.now c.args.rest.now c.requires.0 c.utf8.text c.utf8.rest c.requires.1

pub range-requires-clause-end_boundary : goal.range-requires-clause-end_boundary
range-requires-clause-end_boundary c =
    rest-boundary c.args.text.now c.args.rest.now c.requires.0 c.utf8.text c.utf8.rest c.requires.1

pub returns : goal.returns
returns c front e = chars_of c.range.result.now front c.range.utf8
    (c.range.ensures.value ∙ front-bytes c.args.text.now c.args.rest.now front c.utf8.text c.utf8.rest e)
