use Rattle.std.proofs.Common.{◌∙◌, ap}
use Rattle.std.specs.Str.{chars}
use Rattle.wgsl_error.proofs.Cuts.{floor_characters, rest_characters, spanned_characters}
use Rattle.wgsl_report.proofs.place.cut.Goals as goal

pub returns-clause-before : goal.returns-clause-before
returns-clause-before c =
    let start = c.floor_char_boundary-start in
    ap chars c.split_at.ensures.front
    ∙ floor_characters c.args.source.now c.args.span.start start.result c.utf8.source
    (record { bound = start.ensures.bound; boundary = start.ensures.boundary; nearest = start.ensures.nearest })

pub returns-clause-spanned : goal.returns-clause-spanned
returns-clause-spanned c =
    let start = c.floor_char_boundary-start in
    let end = c.floor_char_boundary-end in
    spanned_characters c.args.source.now c.args.span.start c.args.span.end start.result end.result
    c.get.result c.unwrap_or_default.result c.utf8.source
    (record { bound = start.ensures.bound; boundary = start.ensures.boundary; nearest = start.ensures.nearest })
    (record { bound = end.ensures.bound; boundary = end.ensures.boundary; nearest = end.ensures.nearest })
    c.get.ensures.cases c.unwrap_or_default.ensures

pub returns-clause-rest : goal.returns-clause-rest
returns-clause-rest c =
    let start = c.floor_char_boundary-start in
    ap chars c.split_at.ensures.back
    ∙ rest_characters c.args.source.now c.args.span.start start.result c.utf8.source
    (record { bound = start.ensures.bound; boundary = start.ensures.boundary; nearest = start.ensures.nearest })
