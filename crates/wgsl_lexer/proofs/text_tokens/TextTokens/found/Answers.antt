use Rattle.std.proofs.Common.{◌≡◌, ◌∷◌, ◌∙◌, ◌-◌, ◌≤◌, refl, sym, ap, ap₂, subst, false, drop, chars, reverse, length, arith}
use Rattle.wgsl_model.specs.Tokens.Templates.{is_word}
use Rattle.wgsl_model.specs.Tokens.TokenList.{place, width}
use Rattle.wgsl_lex_scanner.specs.View.{lexeme_view}
use Rattle.wgsl_theory_grammar.proofs.Tokens.Cuts.{cut_at, joined, after_first, after_token}
use Rattle.wgsl_theory_grammar.proofs.Tokens.Places.{bytes_width}
use Rattle.wgsl_lex_templates.proofs.TextLists.Known.{known_end}
use Rattle.wgsl_lex_templates.specs.Lists.{AreTold}
use Rattle.wgsl_lexer.specs.OpenLists.{LeavesEnds}
use Rattle.wgsl_theory_templates.specs.Rest.Left.{LeftOf}
use Rattle.wgsl_lexer.proofs.Told.{end_told, no_end_told}
use Rattle.wgsl_lexer.proofs.Lefts.{token_left, start_left, end_left, before_end_of}
use Rattle.wgsl_lexer.proofs.Room.{fewer, entered}
use Rattle.wgsl_lexer.proofs.text_tokens.TextTokens.found.Goals as goal

pub invariant_of-self : goal.invariant_of-self
invariant_of-self c =
    let l = c.args.self.now in
    let front = cut_at (chars l.rest.now) (chars c.args.from.now) (chars c.args.after.now)
    (lexeme_view c.args.lexeme) c.requires.front in
    let shorter : length c.after_first-rest.result.now ≤ length l.rest.now =
    omega (arith, c.requires.from, c.after_first-rest.ensures.within) in
    record {
      within = omega (arith, l.within, shorter);
      told = subst (λ x. AreTold l.total l.templates.lists.spans.items x)
          (sym c.after_first-rest.ensures.value)
          (known_end l.total l.templates.lists.spans.items (chars l.rest.now)
          (drop 1 (chars c.args.from.now)) (joined (chars l.rest.now) (chars c.args.from.now)
          (drop 1 (chars c.args.from.now)) front.0 (after_first (chars c.args.from.now))) l.told);
      reserved = omega (arith, l.reserved, c.leave.ensures.len, c.leave.ensures.capacity);
      enough = omega (
        arith,
        l.enough,
        fewer (l.total - length l.rest.now) (l.total - length c.after_first-rest.result.now)
            l.templates.lists.spans.items (omega (arith, shorter)),
      );
    }

pub returns-then-leave-clause-value : goal.returns-then-leave-clause-value
returns-then-leave-clause-value c ts e h =
    let l = c.args.self.now in
    let left = subst (λ b. LeavesEnds c.span_of-span.result.start (reverse l.ends.items) b
    (reverse c.leave.new.ends.items)) c.if-leave.true c.leave.ensures.value in
    end_left l.total (reverse l.ends.items) (reverse c.leave.new.ends.items) l.after_word
    (chars l.rest.now) (chars c.args.from.now) (chars c.args.after.now)
    (chars c.after_first-rest.result.now) (lexeme_view c.args.lexeme)
    c.span_of.result.start c.span_of.result.end ts e c.requires.front
    (left ∙ ap (λ x. x ∷ reverse c.leave.new.ends.items)
    (c.span_of-span.ensures.start ∙ sym c.span_of.ensures.start)) c.after_first-rest.ensures.value
    c.span_of.ensures.start c.span_of.ensures.end h

pub overflow_sub-end : goal.overflow_sub-end
overflow_sub-end c =
    let l = c.args.self.now in
    let fits : width (chars c.args.after.now) ≤ l.total =
    omega (arith, bytes_width c.args.after.now c.utf8.after, l.within, c.requires.after) in
    let found = end_told l.total l.templates.lists.spans.items (chars l.rest.now)
    (chars c.args.from.now) (chars c.args.after.now) (lexeme_view c.args.lexeme)
    c.span_of-span.result.start c.in-Some.end c.requires.front l.told fits
    (sym c.kind-kind.ensures ∙ c.in-Some.ensures.1) c.span_of-span.ensures.start c.in-Some.ensures.2 in
    omega (arith, found.2)

pub enter-requires : goal.enter-requires
enter-requires c =
    let l = c.args.self.now in
    let less = entered l.total l.templates.lists.spans.items l.rest.now c.args.from.now
    c.args.after.now (lexeme_view c.args.lexeme) c.span_of-span.result.start c.in-Some.end
    c.utf8.from c.utf8.after c.requires.front c.requires.from l.within
    c.span_of-span.ensures.start c.in-Some.ensures.2 in
    omega (arith, l.reserved, l.enough, less, c.leave.ensures.len, c.leave.ensures.capacity)

pub overflow_sub-self : goal.overflow_sub-self
overflow_sub-self c =
    let l = c.args.self.now in
    let less = entered l.total l.templates.lists.spans.items l.rest.now c.args.from.now
    c.args.after.now (lexeme_view c.args.lexeme) c.span_of-span.result.start c.in-Some.end
    c.utf8.from c.utf8.after c.requires.front c.requires.from l.within
    c.span_of-span.ensures.start c.in-Some.ensures.2 in
    omega (arith, l.enough, less)

pub invariant_of-self-in-Some : goal.invariant_of-self-in-Some
invariant_of-self-in-Some c =
    let l = c.args.self.now in
    let following = after_token (chars l.rest.now) (chars c.args.from.now) (chars c.args.after.now)
    (lexeme_view c.args.lexeme) c.requires.front in
    let less = entered l.total l.templates.lists.spans.items l.rest.now c.args.from.now
    c.args.after.now (lexeme_view c.args.lexeme) c.span_of-span.result.start c.in-Some.end
    c.utf8.from c.utf8.after c.requires.front c.requires.from l.within
    c.span_of-span.ensures.start c.in-Some.ensures.2 in
    record {
      within = omega (arith, l.within, c.requires.after);
      told = known_end l.total l.templates.lists.spans.items (chars l.rest.now)
          (chars c.args.after.now) following l.told;
      reserved = omega (
        arith,
        l.reserved,
        l.enough,
        less,
        c.leave.ensures.len,
        c.leave.ensures.capacity,
        c.enter.ensures.len,
        c.enter.ensures.capacity,
      );
      enough = omega (arith, l.enough, less);
    }

pub returns-in-Some-clause-value : goal.returns-in-Some-clause-value
returns-in-Some-clause-value c ts e h =
    let l = c.args.self.now in
    let kept = subst (λ b. LeavesEnds c.span_of-span.result.start (reverse l.ends.items) b
    (reverse c.leave.new.ends.items)) c.if-leave.false c.leave.ensures.value in
    let less = sym c.kind-kind.ensures ∙ c.in-Some.ensures.1 in
    let fits : width (chars c.args.after.now) ≤ l.total =
    omega (arith, bytes_width c.args.after.now c.utf8.after, l.within, c.requires.after) in
    let found = end_told l.total l.templates.lists.spans.items (chars l.rest.now)
    (chars c.args.from.now) (chars c.args.after.now) (lexeme_view c.args.lexeme)
    c.span_of-span.result.start c.in-Some.end c.requires.front l.told fits
    less c.span_of-span.ensures.start c.in-Some.ensures.2 in
    let last : c.in-Some.end - 1 ≡ place l.total found.0 = omega (arith, found.2) in
    let ends = c.enter.ensures.value ∙ ap₂ (λ a b. a ∷ b) last kept.0 in
    start_left l.total (reverse l.ends.items) l.after_word (chars l.rest.now)
    (chars c.args.from.now) (chars c.args.after.now) found.0
    (lexeme_view c.args.lexeme) c.span_of-span.result.start c.span_of-span.result.end ts e
    c.requires.front (before_end_of l.total (reverse l.ends.items) (chars c.args.from.now)
    c.span_of-span.result.start c.span_of-span.ensures.start kept.1) c.in-Some.ensures.0 less found.1
    c.span_of-span.ensures.start c.span_of-span.ensures.end
    (subst (λ x. LeftOf l.total x false (chars c.args.after.now) ts e) ends h)

pub invariant_of-self-2 : goal.invariant_of-self-2
invariant_of-self-2 c =
    let l = c.args.self.now in
    let following = after_token (chars l.rest.now) (chars c.args.from.now) (chars c.args.after.now)
    (lexeme_view c.args.lexeme) c.requires.front in
    record {
      within = omega (arith, l.within, c.requires.after);
      told = known_end l.total l.templates.lists.spans.items (chars l.rest.now)
          (chars c.args.after.now) following l.told;
      reserved = omega (arith, l.reserved, c.leave.ensures.len, c.leave.ensures.capacity);
      enough = omega (
        arith,
        l.enough,
        fewer (l.total - length l.rest.now) (l.total - length c.args.after.now)
            l.templates.lists.spans.items (omega (arith, c.requires.after)),
      );
    }

pub returns-clause-value : goal.returns-clause-value
returns-clause-value c ts e h =
    let l = c.args.self.now in
    let kept = subst (λ b. LeavesEnds c.span_of-span.result.start (reverse l.ends.items) b
    (reverse c.leave.new.ends.items)) c.if-leave.false c.leave.ensures.value in
    let word = c.is_word-self.ensures ∙ ap is_word c.kind-kind.ensures in
    token_left l.total (reverse l.ends.items) l.after_word (chars l.rest.now) (chars c.args.from.now)
    (chars c.args.after.now) (lexeme_view c.args.lexeme) c.span_of-span.result.start
    (lexeme_view c.args.lexeme) c.span_of-span.result.end ts e
    c.requires.front (before_end_of l.total (reverse l.ends.items)
    (chars c.args.from.now) c.span_of-span.result.start c.span_of-span.ensures.start kept.1)
    (λ w less. no_end_told l.total l.templates.lists.spans.items (chars l.rest.now)
    (chars c.args.from.now) (chars c.args.after.now) (lexeme_view c.args.lexeme)
    c.span_of-span.result.start c.requires.front l.told less c.span_of-span.ensures.start
    (c.in_default.ensures w (c.kind-kind.ensures ∙ less)))
    c.span_of-span.ensures.start c.span_of-span.ensures.end refl
    (subst (λ x. LeftOf l.total x (is_word (lexeme_view c.args.lexeme).class) (chars c.args.after.now) ts e) kept.0
    (subst (λ x. LeftOf l.total (reverse c.leave.new.ends.items) x (chars c.args.after.now) ts e) word h))
