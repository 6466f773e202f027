use Rattle.std.proofs.Common.{◌≡◌, ◌+◌, ◌∷◌, suc, false, refl, sym, ap, ap₂, subst, ◌∙◌, chars, drop, length, length-append, arith}
use Rattle.std.specs.List.{list_all}
use Rattle.std.specs.Prelude.{slice_range}
use Rattle.wgsl_model_tidy.specs.Pieces.{between}
use Rattle.wgsl_model_tidy.specs.Roles.{precedence}
use Rattle.wgsl_model_tidy.specs.Layout.{column_after}
use Rattle.wgsl_model_tidy.specs.Open.{together, role_in, after_token}
use Rattle.wgsl_model_tidy.specs.Ahead.{is_comment}
use Rattle.wgsl_lexer.specs.TextTokens.{tokens_left}
use Rattle.wgsl_format_layout.specs.View.{role_view}
use Rattle.wgsl_format_layout.specs.Layouts.{layout_view}
use Rattle.wgsl_format_layout.specs.Lines.{is_printable}
use Rattle.wgsl_format_layout.specs.Contexts.{IsContext}
use Rattle.wgsl_format_layout.specs.Left.{AreLeftFrom}
use Rattle.wgsl_format_layout.specs.Trivia.{IsTrivia}
use Rattle.wgsl_format_layout.specs.Closing.{AreBelow, tokens_after, open_after}
use Rattle.wgsl_format_layout.specs.Reads.{role_before}
use Rattle.wgsl_format_layout.specs.Reading.{IsEnd}
use Rattle.wgsl_format_layout.specs.declared.marks.MarkedToken.{MarkedToken}
use Rattle.wgsl_format_layout.proofs.Closes.{below_more, below_as, below_after, length_after}
use Rattle.wgsl_format_layout.proofs.TokensCut.{stands_next}
use Rattle.wgsl_format_layout.proofs.TokenRead.{part_chars, operand_right, token_reads}
use Rattle.wgsl_format_layout.proofs.marks.Marks.read_token.Goals as goal

pub cut-requires : goal.cut-requires
cut-requires c = (tokens_left c.args.self.now.left, c.args.kind, c.requires.left, c.requires.kind, c.requires.span)

pub pass-requires : goal.pass-requires
pass-requires c =
    let ms = c.args.self.now.tokens.items in
    let one : length ms + 1 ≡ suc (length ms) = omega arith in
    let more : length c.push.new.self.items ≡ suc (length ms) =
    ap length c.in_ok-push.ensures.items ∙ length-append ms _ ∙ one in
    below_as _ _ c.args.self.now.places (sym more) (below_more (length ms) c.args.self.now.places c.requires.below)

pub returns-clause-below : goal.returns-clause-below
returns-clause-below c =
    let ms = c.args.self.now.tokens.items in
    let one : length ms + 1 ≡ suc (length ms) = omega arith in
    let more : length c.pass.new.tokens.items ≡ suc (length ms) =
    ap length c.in_ok-pass.ensures.tokens ∙ length_after _ _ _ _ ∙ ap length c.in_ok-push.ensures.items
    ∙ length-append ms _ ∙ one in
    let right = role_view c.role_in-role.result in
    let place : c.len-place.result ≡ length ms = c.len-place.ensures ∙ c.args.self.now.tokens.ok.0 in
    let here : open_after right (length ms) c.args.self.now.places ≡ c.pass.new.self =
    ap (λ k. open_after right k c.args.self.now.places) (sym place) ∙ sym c.in_ok-pass.ensures.open in
    subst (λ is. AreBelow (length c.pass.new.tokens.items) is) here
    (below_as _ _ _ (sym more) (below_after right (length ms) c.args.self.now.places c.requires.below))

pub returns-clause-left : goal.returns-clause-left
returns-clause-left c =
    let n = stands_next c.args.self.now.source.now c.args.self.now.byte (tokens_left c.args.self.now.left)
    c.args.kind c.args.span c.cut.ensures.utf8 c.requires.left c.requires.kind c.requires.span in
    subst (AreLeftFrom c.args.self.now.source.now c.args.span.end)
    (sym (c.skip.ensures.left ∙ ap (drop 1) n.whole)) n.left

pub returns-clause-token : goal.returns-clause-token
returns-clause-token c =
    let old = c.args.self.now in
    let source = old.source.now in
    let layout = layout_view old.layout in
    let n = stands_next source old.byte (tokens_left old.left) c.args.kind c.args.span c.cut.ensures.utf8
    c.requires.left c.requires.kind c.requires.span in
    let t = n.first in
    let place : c.len-place.result ≡ length old.tokens.items = c.len-place.ensures ∙ old.tokens.ok.0 in
    let others : tokens_left c.skip.new.self ≡ n.others = c.skip.ensures.left ∙ ap (drop 1) n.whole in
    let left : AreLeftFrom source t.end (tokens_left c.skip.new.self) =
    subst (AreLeftFrom source t.end) (sym others) (subst (λ k. AreLeftFrom source k n.others) (sym n.stops) n.left) in
    let role = c.role_in-role.result in
    let operand = operand_right source t.end (tokens_left c.skip.new.self) c.kind.result left c.kind.ensures in
    let m : MarkedToken = record {
      role = role;
      last = c.take.new.self.last;
      binds = c.precedence_of.result;
      item = c.is_between_items-item.result;
      before = c.in_ok-before.before;
      span = c.args.span;
      width = c.in_ok-width.field-0.width;
      is_printable = c.in_ok-width.field-0.is_printable;
      end = c.in_ok-end.end;
      close = c.len-place.result;
    } in
    let trivia = subst (λ k. IsTrivia layout (between (chars source) old.byte k) m.before) (sym n.starts)
    (subst (λ xs. IsTrivia layout xs m.before) c.cut.ensures.before c.in_ok-before.ensures) in
    let own : c.cut.result.1.now ≡ slice_range source t.start t.end = c.cut.ensures.own
    ∙ ap₂ (slice_range source) (sym n.starts) (sym n.stops) in
    let text = part_chars source c.cut.result.1.now t.start t.end c.cut.ensures.utf8 own in
    let end : IsEnd old (role_view role) m.before m.width m.end =
    record { column = c.in_ok-end.ensures.column; breaks = c.in_ok-end.ensures.breaks } in
    record {
      token = t;
      m = m;
      whole = n.whole ∙ ap (λ ts. t ∷ ts) (sym others);
      does = refl;
      close = place;
      source = refl;
      layout = refl;
      byte = sym n.stops;
      end = refl;
      tokens = c.in_ok-pass.ensures.tokens
          ∙ ap₂ (λ k ms. tokens_after (role_view role) k ms old.places) place c.in_ok-push.ensures.items;
      places = c.in_ok-pass.ensures.open ∙ ap (λ k. open_after (role_view role) k old.places) place;
      reads = λ state context.
          let does : role_view role ≡ role_before source state t (tokens_left c.skip.new.self) =
          c.role_in-role.ensures state context
          ∙ ap₂ (role_in state) (sym n.class) (sym operand) in
          token_reads old _ state t m (subst (λ k. is_comment k ≡ false) (sym n.class) n.plain)
          (n.whole ∙ ap (λ ts. t ∷ ts) (sym others)) refl refl (sym n.stops) context
          (subst (λ k. IsContext c.take.new.self (after_token state 0 k (role_view role) together)) (sym n.class)
          (c.in_ok-take.ensures state context)) trivia does
          (c.precedence_of.ensures ∙ ap (precedence (role_view role)) (sym n.class))
          (c.in_ok-width.ensures.width ∙ ap (column_after layout 0) text)
          c.is_between_items-item.ensures end (sym n.starts) (sym n.stops) refl
          (c.in_ok-width.ensures.printable ∙ ap (list_all is_printable) own);
    }
