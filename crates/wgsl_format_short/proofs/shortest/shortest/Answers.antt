use Rattle.std.proofs.Common.{◌≡◌, [], ◌++◌, drop, length, chars, sym, ap, subst, ◌∙◌, arith, string_bytes}
use Rattle.std.proofs.lemmas.Str.{IsUtf8-string_bytes, chars-nil}
use Rattle.wgsl_lexer.specs.TextTokens.{tokens_left, ending_left}
use Rattle.wgsl_lex_token.specs.View.{class_of_kind}
use Rattle.wgsl_format_layout.specs.Left.{AreLeftFrom}
use Rattle.wgsl_format_layout.proofs.TokensCut.{StandsNext, all_left, stands_next}
use Rattle.wgsl_model_short.specs.Shortest as model
use Rattle.wgsl_format_short.proofs.Written.{written_more, written_none}
use Rattle.wgsl_format_short.proofs.shortest.shortest.Goals as goal
use Rattle.wgsl_format_short.proofs.shortest.shortest.Goals.{In-Some-Some, in_default, in_default-2}

-- the next token
next : (c : In-Some-Some) → StandsNext c.args.source.now c.tokens.invariant.left.0
    (tokens_left c.tokens.tokens) c.in-Some-Some.kind c.in-Some-Some.span
next c = stands_next c.args.source.now c.tokens.invariant.left.0
    (tokens_left c.tokens.tokens) c.in-Some-Some.kind c.in-Some-Some.span c.utf8.source
    c.tokens.invariant.left.1 c.in-Some-Some.ensures c.in-Some-Some.ensures'

pub tokens-init : goal.tokens-init
tokens-init c =
    let ts = tokens_left c.args.tokens in
    record {
      left = (0, all_left c.args.source.now ts (ending_left c.args.tokens) c.requires);
      written = ap (λ bs. chars bs ++ model.shortest (chars c.args.source.now) ts) c.in_ok-text.ensures.bytes
          ∙ ap (λ cs. cs ++ model.shortest (chars c.args.source.now) ts) chars-nil;
    }

pub range-token-requires-clause-start_le_end : goal.range-token-requires-clause-start_le_end
range-token-requires-clause-start_le_end c =
    (next (goal.at.range-token-requires-clause-start_le_end c).In-Some-Some).forward

pub range-token-requires-clause-start_boundary : goal.range-token-requires-clause-start_boundary
range-token-requires-clause-start_boundary c =
    λ _. (next (goal.at.range-token-requires-clause-start_boundary c).In-Some-Some).start_boundary

pub range-token-requires-clause-end_boundary : goal.range-token-requires-clause-end_boundary
range-token-requires-clause-end_boundary c =
    (next (goal.at.range-token-requires-clause-end_boundary c).In-Some-Some).stop_boundary

pub tokens-smaller : goal.tokens-smaller
tokens-smaller c =
    let n = next (goal.at.tokens-smaller c).In-Some-Some in
    omega (arith, ap length n.whole, ap length (c.skip.ensures.left ∙ ap (drop 1) n.whole))

pub tokens-preserved : goal.tokens-preserved
tokens-preserved c =
    let n = next (goal.at.tokens-preserved c).In-Some-Some in
    let others : tokens_left c.skip.new.self ≡ n.others = c.skip.ensures.left ∙ ap (drop 1) n.whole in
    record {
      left =
          (c.in-Some-Some.span.end, subst (AreLeftFrom c.args.source.now c.in-Some-Some.span.end) (sym others) n.left);
      written = written_more c.args.source.now c.range-token.result.now
          (string_bytes c.tokens.text) (string_bytes c.push_str.new.self)
          (string_bytes c.push_str-in-Some-Some.new.self) c.gap.result.now c.tokens.invariant.left.0
          (tokens_left c.tokens.tokens)
          (tokens_left c.skip.new.self) c.in-Some-Some.kind c.in-Some-Some.span
          (class_of_kind c.tokens.last) _ c.utf8.source (IsUtf8-string_bytes c.tokens.text)
          (IsUtf8-string_bytes c.push_str.new.self) n c.skip.ensures.left c.range-token.ensures.value
          c.gap.ensures c.in_ok-push_str.ensures.bytes c.in_ok-push_str-2.ensures.bytes
          c.tokens.invariant.written;
    }

pub returns : goal.returns
returns c =
    let none : tokens_left c.tokens.tokens ≡ [] = elim c.match-kind.branch [
      | in_default w ↦ w.in_default.ensures'
      | in_default-2 w ↦ rw w.in_default.is-0 at c.kind.ensures
    ] in
    written_none c.args.source.now (string_bytes c.tokens.text) (tokens_left c.tokens.tokens)
    (class_of_kind c.tokens.last) _ none c.tokens.invariant.written
