use Rattle.std.proofs.Common.{◌≡◌, ◌++◌, drop, map, chars, sym, ap, subst, ◌∙◌, string_bytes}
use Rattle.std.proofs.lemmas.Str.{chars-nil}
use Rattle.grammar.specs.Tokens.{Token}
use Rattle.wgsl_lexer.specs.TextTokens.{tokens_left, ending_left}
use Rattle.wgsl_lex_token.specs.View.{class_of_kind}
use Rattle.wgsl_format_layout.specs.Left.{AreLeftFrom}
use Rattle.wgsl_format_layout.proofs.TokensCut.{StandsNext, all_left, stands_next}
use Rattle.wgsl_model_short.specs.Respelled as model
use Rattle.wgsl_format_short.proofs.Needless.{left_after, minified_left, needless_by}
use Rattle.wgsl_format_short.proofs.minified.minified.Goals as goal
use Rattle.wgsl_format_short.proofs.minified.minified.Goals.{In-Some-Some}

-- the next token
next : (c : In-Some-Some) → StandsNext c.args.source.now c.tokens.invariant.left.0
    (tokens_left c.tokens.tokens) c.in-Some-Some.kind c.in-Some-Some.span
next c = stands_next c.args.source.now c.tokens.invariant.left.0
    (tokens_left c.tokens.tokens) c.in-Some-Some.kind c.in-Some-Some.span c.utf8.source
    c.tokens.invariant.left.1 c.in-Some-Some.ensures c.in-Some-Some.ensures'

pub range-token-requires-clause-start_le_end : goal.range-token-requires-clause-start_le_end
range-token-requires-clause-start_le_end c =
    (next (goal.at.range-token-requires-clause-start_le_end c).In-Some-Some).forward

pub range-token-requires-clause-start_boundary : goal.range-token-requires-clause-start_boundary
range-token-requires-clause-start_boundary c =
    λ _. (next (goal.at.range-token-requires-clause-start_boundary c).In-Some-Some).start_boundary

pub range-token-requires-clause-end_boundary : goal.range-token-requires-clause-end_boundary
range-token-requires-clause-end_boundary c =
    (next (goal.at.range-token-requires-clause-end_boundary c).In-Some-Some).stop_boundary

pub tokens-init : goal.tokens-init
tokens-init c =
    let ts = tokens_left c.args.tokens in
    record {
      left = (0, all_left c.args.source.now ts (ending_left c.args.tokens) c.requires);
      next = c.skip.ensures.left ∙ ap (drop 1) c.in_ok-next.ensures.left;
      after = c.skip-2.ensures.left ∙ ap (drop 1) c.in_ok-after.ensures.left;
      written = ap (λ bs. chars bs ++ model.minified (chars c.args.source.now) ts) c.in_ok-text.ensures.bytes
          ∙ ap (λ cs. cs ++ model.minified (chars c.args.source.now) ts) chars-nil;
    }

pub tokens-preserved : goal.tokens-preserved
tokens-preserved c =
    let n = next (goal.at.tokens-preserved c).In-Some-Some in
    let us = tokens_left c.take_token.new.tokens in
    let taken : us ≡ drop 1 (tokens_left c.tokens.tokens) = c.in_ok-other.ensures.left in
    let following : tokens_left c.tokens.next ≡ us = c.tokens.invariant.next ∙ sym taken in
    let others : us ≡ n.others = taken ∙ ap (drop 1) n.whole in
    let before = class_of_kind c.tokens.before in
    let kind = class_of_kind c.in-Some-Some.kind in
    let needless = needless_by before kind (tokens_left c.tokens.next) (tokens_left c.tokens.after)
    c.kind-in-Some-Some.result c.kind-in-Some-Some-2.result c.is_needless-needless.result c.tokens.invariant.after
    c.kind-in-Some-Some.ensures c.kind-in-Some-Some-2.ensures c.is_needless-needless.ensures
    ∙ ap (λ xs. model.is_needless before kind (map (λ (t : Token). t.class) xs)) following in
    let rest = minified_left c.args.source.now c.range-token.result.now (chars c.spelled.result.now)
    c.tokens.invariant.left.0 (tokens_left c.tokens.tokens) us c.in-Some-Some.kind c.in-Some-Some.span
    (class_of_kind c.tokens.last) before c.is_needless-needless.result c.utf8.source n taken
    c.range-token.ensures.value
    (λ t ts q. c.in_ok-other.ensures.text t ts q ∙ sym c.spelled.ensures) needless in
    record {
      left = (c.in-Some-Some.span.end, subst (AreLeftFrom c.args.source.now c.in-Some-Some.span.end) (sym others) n.left);
      next = c.skip-in-Some-Some.ensures.left ∙ ap (drop 1) following;
      after = c.skip-in-Some-Some-2.ensures.left
          ∙ ap (drop 1) (c.tokens.invariant.after ∙ sym c.skip-in-Some-Some.ensures.left);
      written = c.in_ok-last.ensures (left_after (chars c.args.source.now) kind us)
          ∙ ap (λ xs. chars (string_bytes c.tokens.text) ++ xs) (sym rest) ∙ c.tokens.invariant.written;
    }
