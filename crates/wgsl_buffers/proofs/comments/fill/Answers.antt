use Rattle.std.proofs.Common.{rules, ◌≡◌, [], ◌++◌, drop, length, chars, refl, sym, ap, subst, ◌∙◌}
use Rattle.wgsl_lexer.specs.TextTokens.{tokens_left, ending_left}
use Rattle.wgsl_format_layout.specs.Left.{AreLeftFrom}
use Rattle.wgsl_format_layout.proofs.TokensCut.{StandsNext, all_left, left_boundary, stands_next}
use Rattle.wgsl_buffers.proofs.Commented.{none_listed, token_listed, all_listed}
use Rattle.wgsl_buffers.proofs.comments.fill.Goals as goal
use Rattle.wgsl_buffers.proofs.comments.fill.Goals.{In-Some-Some, in_default, in_default-2}

-- the next token
next : (c : In-Some-Some) → StandsNext c.args.source.now c.tokens.at
    (tokens_left c.tokens.left) c.in-Some-Some.kind c.in-Some-Some.span
next c = stands_next c.args.source.now c.tokens.at
    (tokens_left c.tokens.left) c.in-Some-Some.kind c.in-Some-Some.span c.utf8.source
    c.tokens.invariant.left c.in-Some-Some.ensures c.in-Some-Some.ensures'

pub tokens-init : goal.tokens-init
tokens-init c =
    let ts = tokens_left c.args.left.now in
    record {
      left = all_left c.args.source.now ts (ending_left c.args.left.now) c.requires;
      ending = search rules;
      size = search rules;
      listed = none_listed (chars c.args.source.now) ts c.args.buffer.now;
    }

pub range_from-requires : goal.range_from-requires
range_from-requires c = λ _. left_boundary c.args.source.now c.tokens.at
    (tokens_left c.tokens.left) c.utf8.source c.tokens.invariant.left

pub range_from-requires-2 : goal.range_from-requires-2
range_from-requires-2 c = λ _. left_boundary c.args.source.now c.tokens.at
    (tokens_left c.tokens.left) c.utf8.source c.tokens.invariant.left

pub tokens-preserved : goal.tokens-preserved
tokens-preserved c =
    let n = next (goal.at.tokens-preserved c).In-Some-Some in
    let comments = c.put_comments-count.ensures.stored in
    let others : tokens_left c.skip.new.self ≡ n.others = c.skip.ensures.left ∙ ap (drop 1) n.whole in
    record {
      left = subst (AreLeftFrom c.args.source.now c.in-Some-Some.span.end) (sym others) n.left;
      ending = search rules;
      size = search rules;
      listed = token_listed c.args.source.now c.range_from.result.now c.tokens.at (length c.args.source.now)
          (tokens_left c.args.left.now) (tokens_left c.tokens.left) (tokens_left c.skip.new.self)
          c.in-Some-Some.kind c.in-Some-Some.span c.tokens.buffer c.put-count.new.buffer c.tokens.count
          c.put-count.result comments.0 c.utf8.source n c.skip.ensures.left refl c.range_from.ensures.value comments.1
          (λ items s. c.put-count.ensures.stored (items ++ comments.0) (comments.2 items s)) c.tokens.invariant.listed;
    }

pub returns-clause-stored : goal.returns-clause-stored
returns-clause-stored c =
    let comments = c.put_comments.ensures.stored in
    let none : tokens_left c.tokens.left ≡ [] = elim c.match-kind.branch [
      | in_default w ↦ w.in_default.ensures'
      | in_default-2 w ↦ rw w.in_default.is-0 at c.kind.ensures
    ] in
    all_listed c.args.source.now c.range_from-2.result.now c.tokens.at (length c.args.source.now)
    (tokens_left c.args.left.now) (tokens_left c.tokens.left) c.tokens.buffer c.put_comments.new.buffer c.tokens.count
    c.put_comments.result comments.0 c.utf8.source none refl c.range_from-2.ensures.value comments.1 comments.2
    c.tokens.invariant.listed
