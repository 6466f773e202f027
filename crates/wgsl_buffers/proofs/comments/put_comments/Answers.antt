use Rattle.std.proofs.Common.{rules, chars, subst}
use Rattle.std.specs.Prelude.{MatchOption}
use Rattle.wgsl_buffers.specs.Comments.{IsBlank, IsComment}
use Rattle.wgsl_buffers.proofs.Commented.{blank_passed, comment_passed, all_commented}
use Rattle.wgsl_buffers.proofs.comments.put_comments.Goals as goal

pub pieces-preserved-in_default-kind : goal.pieces-preserved-in_default-kind
pieces-preserved-in_default-kind c =
    let rest = chars c.pieces.rest.now in
    let after = chars c.pass-passed.result.rest.now in
    let blank = subst (λ o. MatchOption o (IsBlank rest after) (λ class. IsComment rest class after))
    c.in_default-kind.is (c.pass-passed.ensures.passed rest c.in-Some.ensures.value) in
    record {
      text = search rules;
      size = search rules;
      passed = blank_passed c.args.total blank.0 (chars c.args.text.now) rest after c.args.buffer.now
          c.pieces.buffer c.args.count c.pieces.count blank.1 blank.2 c.pieces.invariant.passed;
    }

pub pieces-preserved : goal.pieces-preserved
pieces-preserved c =
    let rest = chars c.pieces.rest.now in
    let after = chars c.pass-passed.result.rest.now in
    let comment = subst (λ o. MatchOption o (IsBlank rest after) (λ class. IsComment rest class after))
    c.in-Some-kind.is (c.pass-passed.ensures.passed rest c.in-Some.ensures.value) in
    record {
      text = search rules;
      size = search rules;
      passed = comment_passed c.args.total c.in-Some-kind.kind c.place.result c.place-in-Some.result
          (chars c.args.text.now) rest after c.args.buffer.now c.pieces.buffer c.put-count.new.buffer
          c.args.count c.pieces.count c.put-count.result comment c.place.ensures
          c.place-in-Some.ensures c.put-count.ensures.stored c.pieces.invariant.passed;
    }

pub returns-clause-stored : goal.returns-clause-stored
returns-clause-stored c = all_commented c.args.total (chars c.args.text.now) (chars c.pieces.rest.now)
    c.args.buffer.now c.pieces.buffer c.args.count c.pieces.count c.in_default.ensures.value c.pieces.invariant.passed
