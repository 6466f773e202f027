use Rattle.std.proofs.Common.{rules, refl, sym, ◌∙◌, chars, arith}
use Rattle.std.specs.Prelude.{codes}
use Rattle.std.proofs.lemmas.Slice.Eq.{bytes_eq-Decides}
use Rattle.wgsl_format_layout.specs.Layouts.{layout_view}
use Rattle.wgsl_format_layout.proofs.TriviaScanned.{scanned_comment, scanned_all, one_space}
use Rattle.wgsl_format_layout.proofs.marks.trivia_in.Goals as goal

pub pieces-preserved-in-Some-comment_at : goal.pieces-preserved-in-Some-comment_at
pieces-preserved-in-Some-comment_at c =
    let comment = c.in-Some-comment_at.comment in
    let new = c.in_ok-trivia.trivia in
    let passed = c.in_ok-trivia.ensures c.pieces.trivia.line_ends in
    record {
      text = search rules;
      scanned = scanned_comment (layout_view c.args.layout) (chars c.args.text.now) (chars c.pieces.rest.now)
          (chars comment.text.now) (chars comment.rest.now) comment.kind c.pieces.trivia new
          c.in-Some-comment_at.ensures.value passed c.pieces.invariant.scanned;
      within = omega (arith, passed.line_ends, c.pieces.invariant.within, c.in-Some-comment_at.ensures.shorter);
    }

pub returns-then-eq : goal.returns-then-eq
returns-then-eq c = one_space (layout_view c.args.layout) c.args.text.now c.new-trivia.result
    ((bytes_eq-Decides c.args.text.now (codes " ")).0 (sym c.eq.ensures ∙ c.if-eq.true)) c.new-trivia.ensures

pub returns : goal.returns
returns c = scanned_all (layout_view c.args.layout) (chars c.args.text.now) (chars c.pieces.rest.now)
    c.pieces.trivia _ c.in_default.ensures.parts refl c.pieces.invariant.scanned
