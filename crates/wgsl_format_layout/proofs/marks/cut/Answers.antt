use Rattle.wgsl_format_layout.proofs.TokensCut.{left_boundary, stands_next}
use Rattle.wgsl_format_layout.proofs.TokenRead.{part_chars}
use Rattle.wgsl_format_layout.proofs.marks.cut.Goals as goal

pub range-requires-clause-start_le_end : goal.range-requires-clause-start_le_end
range-requires-clause-start_le_end c = (stands_next c.args.source.now c.args.byte c.requires.0 c.requires.1
    c.args.span c.utf8.source c.requires.2 c.requires.3 c.requires.4).following

pub range-requires-clause-start_boundary : goal.range-requires-clause-start_boundary
range-requires-clause-start_boundary c = λ _. left_boundary c.args.source.now c.args.byte c.requires.0
    c.utf8.source c.requires.2

pub range-requires-clause-end_boundary : goal.range-requires-clause-end_boundary
range-requires-clause-end_boundary c = (stands_next c.args.source.now c.args.byte c.requires.0 c.requires.1
    c.args.span c.utf8.source c.requires.2 c.requires.3 c.requires.4).start_boundary

pub range-requires-2-clause-start_le_end : goal.range-requires-2-clause-start_le_end
range-requires-2-clause-start_le_end c = (stands_next c.args.source.now c.args.byte c.requires.0 c.requires.1
    c.args.span c.utf8.source c.requires.2 c.requires.3 c.requires.4).forward

pub range-requires-2-clause-start_boundary : goal.range-requires-2-clause-start_boundary
range-requires-2-clause-start_boundary c = λ _. (stands_next c.args.source.now c.args.byte c.requires.0 c.requires.1
    c.args.span c.utf8.source c.requires.2 c.requires.3 c.requires.4).start_boundary

pub range-requires-2-clause-end_boundary : goal.range-requires-2-clause-end_boundary
range-requires-2-clause-end_boundary c = (stands_next c.args.source.now c.args.byte c.requires.0 c.requires.1
    c.args.span c.utf8.source c.requires.2 c.requires.3 c.requires.4).stop_boundary

pub returns-clause-before : goal.returns-clause-before
returns-clause-before c = part_chars c.args.source.now c.range.result.now c.args.byte c.args.span.start
    c.utf8.source c.range.ensures.value
