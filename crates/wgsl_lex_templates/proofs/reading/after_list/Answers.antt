use Rattle.std.proofs.Common.{chars, sym, subst, ◌∙◌, arith}
use Rattle.wgsl_lex_templates.specs.TemplateEnds.{SkipsList}
use Rattle.wgsl_lex_templates.proofs.TextLists.Ends.{found_ends, none_found, ends_after, skipped}
use Rattle.wgsl_lex_templates.proofs.reading.after_list.Goals as goal

pub returns-in_err-end-clause-value : goal.returns-in_err-end-clause-value
returns-in_err-end-clause-value c =
    let none = none_found c.args.total c.args.lists.now.spans.items
    (chars c.args.text.now) c.requires.first.0 c.place-start.result c.requires.lists
    c.requires.first.1 c.place-start.ensures (sym c.in_err-end.was ∙ c.end_of.ensures) in
    subst (SkipsList c.args.total (chars c.args.text.now)) (sym c.from_residual.ensures) none

pub overflow_sub-end : goal.overflow_sub-end
overflow_sub-end c =
    let ends = found_ends c.args.total c.args.lists.now.spans.items
    (chars c.args.text.now) c.requires.first.0 c.place-start.result c.in_ok-end.end c.requires.lists
    c.requires.first.1 c.place-start.ensures (sym c.in_ok-end.was ∙ c.end_of.ensures) in
    omega (arith, c.place-start.ensures, ends_after c.args.total (chars c.args.text.now) c.in_ok-end.end ends)

pub returns : goal.returns
returns c =
    let ends = found_ends c.args.total c.args.lists.now.spans.items
    (chars c.args.text.now) c.requires.first.0 c.place-start.result c.in_ok-end.end c.requires.lists
    c.requires.first.1 c.place-start.ensures (sym c.in_ok-end.was ∙ c.end_of.ensures) in
    let r = skipped c.args.total c.args.text.now c.place-start.result c.in_ok-end.end c.get.result
    c.utf8.text c.requires.fits c.place-start.ensures ends c.get.ensures.cases in
    record { value = r.0; shorter = r.1 }
