use Rattle.std.proofs.Common.{rules, arith, ◌≤◌, ◌++◌, ◌∷◌, [], ◌∙◌, false, inl, inr, sym, ap, subst, chars, length, refl}
use Rattle.std.specs.Str.{IsUtf8}
use Rattle.std.proofs.lemmas.List.{length-append}
use Rattle.wgsl_model.specs.Tokens.Templates.{is_word}
use Rattle.wgsl_lex_scanner.specs.View.{scanned_view}
use Rattle.wgsl_theory_grammar.proofs.Tokens.Cuts.{joined}
use Rattle.wgsl_theory_grammar.proofs.Tokens.Widths.{within}
use Rattle.wgsl_theory_grammar.proofs.Tokens.Bounds.{template_leaves}
use Rattle.wgsl_theory_templates.specs.Attempts.{ReadsTo}
use Rattle.wgsl_theory_templates.proofs.Swaps.Attempts.{list_front, none_begins}
use Rattle.wgsl_theory_templates.proofs.Swaps.RefutesAround as refutes
use Rattle.wgsl_lex_templates.specs.declared.kept.Piece.TheVariants.{Token}
use Rattle.wgsl_lex_templates.specs.declared.roles.Turn.TheVariants as turn
use Rattle.wgsl_lex_templates.specs.Findings.{IsListOrNone}
use Rattle.wgsl_lex_templates.specs.Reached.{Reaches}
use Rattle.wgsl_theory_grammar.proofs.Tokens.Places.{bytes_width}
use Rattle.wgsl_lex_templates.proofs.TextLists.Ends.{tell_end}
use Rattle.wgsl_lex_templates.proofs.Readings.Found.{right_more}
use Rattle.wgsl_lex_templates.proofs.TextLists.Fronts.{less_first}
use Rattle.wgsl_lex_templates.proofs.Readings.Pieces.{held_from, nothing_held, token_held, list_held, begin_with_all, one_more, list_more, no_shorter}
use Rattle.wgsl_lex_templates.proofs.Readings.Reached.{starts, takes, takes_list, goes_on_by, ends, forget_word, reached_alike, moved, taken_within, no_end_after, sign_of}
use Rattle.wgsl_lex_templates.proofs.Readings.Turns.{turned}
use Rattle.wgsl_lex_templates.proofs.TextLists.Scans.{no_token, taken}
use Rattle.wgsl_lex_templates.proofs.reading.read.Goals as goal

pub tokens-init : goal.tokens-init
tokens-init c = record {
  known = c.requires.known;
  text = search rules;
  within = omega arith;
  some = omega arith;
  few = omega arith;
  ends = ([], refl);
  lists = c.requires.lists;
  more = begin_with_all c.args.kept.now.pieces.items;
  reached = starts (length c.args.source.now) (chars c.args.text.now)
      (held_from c.args.kept.now.pieces.items (length c.args.kept.now.pieces.items))
      (nothing_held c.args.kept.now.pieces.items);
}

pub take-requires-clause-ends : goal.take-requires-clause-ends
take-requires-clause-ends c = joined (chars c.args.source.now) (chars c.args.text.now)
    (chars c.tokens.rest.now) c.requires.ends c.tokens.invariant.ends

pub list_after-requires-clause-fits : goal.list_after-requires-clause-fits
list_after-requires-clause-fits c =
    omega (
      arith,
      (taken c.tokens.rest.now _ c.in-Found.lexeme c.in-Found.from c.in-Found.after c.in-Found.is
          c.in_ok-lexeme.ensures.value c.in_ok-lexeme.ensures.shorter).shorter,
      c.tokens.invariant.within,
      within (chars c.args.source.now) (chars c.args.text.now) c.requires.ends,
      bytes_width c.args.source.now c.utf8.source,
      bytes_width c.args.text.now c.utf8.text,
    )

pub list_after-requires-clause-first : goal.list_after-requires-clause-first
list_after-requires-clause-first c less =
    less_first _ _ _ _ (taken c.tokens.rest.now _ c.in-Found.lexeme c.in-Found.from c.in-Found.after
    c.in-Found.is c.in_ok-lexeme.ensures.value c.in_ok-lexeme.ensures.shorter).front
    (sym c.kind-kind.ensures ∙ less)

pub list_after-requires-clause-lists : goal.list_after-requires-clause-lists
list_after-requires-clause-lists c =
    tell_end (length c.args.source.now) c.args.tried.now.lists.spans.items _ _
    (taken c.tokens.rest.now _ c.in-Found.lexeme c.in-Found.from c.in-Found.after c.in-Found.is
    c.in_ok-lexeme.ensures.value c.in_ok-lexeme.ensures.shorter).starts c.tokens.invariant.lists

pub tokens-smaller-in-Some : goal.tokens-smaller-in-Some
tokens-smaller-in-Some c = omega (
  arith,
  (taken c.tokens.rest.now _ c.in-Found.lexeme c.in-Found.from c.in-Found.after c.in-Found.is
      c.in_ok-lexeme.ensures.value c.in_ok-lexeme.ensures.shorter).shorter,
  c.in-Some.ensures.shorter,
)

pub tokens-preserved-in-Some : goal.tokens-preserved-in-Some
tokens-preserved-in-Some c =
    let total = length c.args.source.now in
    let following = chars c.in-Some.following.now in
    let t = taken c.tokens.rest.now _ c.in-Found.lexeme c.in-Found.from c.in-Found.after
    c.in-Found.is c.in_ok-lexeme.ensures.value c.in_ok-lexeme.ensures.shorter in
    let found = c.in-Some.ensures.value in
    let list = list_front total _ _ _ _ found.2.0 following t.again found.2.1 in
    let cut = joined _ _ following t.starts (template_leaves total _ found.2.0 following found.2.1) in
    let start = length c.args.kept.now.pieces.items in
    let held = list_held c.tokens.kept.pieces.items c.push_list.new.kept.pieces.items start c.in_ok-push_list.ensures
    (no_shorter c.args.kept.now.pieces.items c.tokens.kept.pieces.items c.tokens.invariant.more) in
    record {
      text = search rules;
      within = omega (arith, c.tokens.invariant.within, t.shorter, c.in-Some.ensures.shorter);
      some = omega (arith, c.tokens.invariant.some, c.take.ensures.reads);
      few = omega (arith, c.tokens.invariant.few, c.take.ensures.reads, t.shorter, c.in-Some.ensures.shorter);
      ends = joined (chars c.args.text.now) _ following c.tokens.invariant.ends cut;
      lists = tell_end total c.args.tried.now.lists.spans.items _ following cut c.tokens.invariant.lists;
      known = c.in_ok-lexeme.ensures.known;
      more = list_more c.args.kept.now.pieces.items c.tokens.kept.pieces.items
          c.push_list.new.kept.pieces.items _ _ _ c.in_ok-push_list.ensures c.tokens.invariant.more;
      reached = moved total _ _ _ _ _ _ _ _ held refl list.4
          (takes_list total (chars c.args.text.now) (held_from c.tokens.kept.pieces.items start) c.tokens.after_word
          c.tokens.depth _ _ _ list.1 _ c.tokens.invariant.reached t.front found.0 list.0 list.2);
    }

pub look_up-requires-clause-ends : goal.look_up-requires-clause-ends
look_up-requires-clause-ends c =
    joined (chars c.args.source.now) (chars c.tokens.rest.now) (chars c.in-Found.after.now)
    (joined (chars c.args.source.now) (chars c.args.text.now)
    (chars c.tokens.rest.now) c.requires.ends c.tokens.invariant.ends)
    (taken c.tokens.rest.now _ c.in-Found.lexeme c.in-Found.from c.in-Found.after c.in-Found.is
    c.in_ok-lexeme.ensures.value c.in_ok-lexeme.ensures.shorter).leaves

pub look_up-requires-clause-shorter : goal.look_up-requires-clause-shorter
look_up-requires-clause-shorter c =
    omega (
      arith,
      (taken c.tokens.rest.now _ c.in-Found.lexeme c.in-Found.from c.in-Found.after c.in-Found.is
          c.in_ok-lexeme.ensures.value c.in_ok-lexeme.ensures.shorter).shorter,
      c.tokens.invariant.within,
      within (chars c.args.source.now) (chars c.args.text.now) c.requires.ends,
      bytes_width c.args.source.now c.utf8.source,
      bytes_width c.args.text.now c.utf8.text,
    )

pub returns-in-Around-clause-value : goal.returns-in-Around-clause-value
returns-in-Around-clause-value c =
    let t = taken c.tokens.rest.now _ c.in-Found.lexeme c.in-Found.from c.in-Found.after
    c.in-Found.is c.in_ok-lexeme.ensures.value c.in_ok-lexeme.ensures.shorter in
    let known = c.in-Around.ensures c.tokens.kept.pieces.items (right_more (length c.args.source.now)
    (chars c.args.source.now) c.args.kept.now.pieces.items c.tokens.kept.pieces.items
    c.args.tried.now.findings.entries.items c.tokens.invariant.more c.requires.right) in
    let r = c.tokens.invariant.reached in
    refutes.refuted_less_refutes (length c.args.source.now)
    (chars c.args.text.now) r.seen c.tokens.after_word c.tokens.depth _ _ _ _
    r.reads t.front (sign_of _ _ c.kind-kind.ensures known.0) known.1

pub push_stretch-requires : goal.push_stretch-requires
push_stretch-requires c =
    let t = taken c.tokens.rest.now _ c.in-Found.lexeme c.in-Found.from c.in-Found.after
    c.in-Found.is c.in_ok-lexeme.ensures.value c.in_ok-lexeme.ensures.shorter in
    let known = c.in-GoesOn.ensures c.tokens.kept.pieces.items (right_more (length c.args.source.now)
    (chars c.args.source.now) c.args.kept.now.pieces.items c.tokens.kept.pieces.items
    c.args.tried.now.findings.entries.items c.tokens.invariant.more c.requires.right) in
    omega (
      arith,
      known.2.1,
      ap length c.in_ok-push-in-GoesOn.ensures,
      length-append c.tokens.kept.pieces.items (Token c.kind-kind.result ∷ []),
    )

pub returns-then-not-is_list-clause-value : goal.returns-then-not-is_list-clause-value
returns-then-not-is_list-clause-value c =
    let total = length c.args.source.now in
    let t = taken c.tokens.rest.now _ c.in-Found.lexeme c.in-Found.from c.in-Found.after
    c.in-Found.is c.in_ok-lexeme.ensures.value c.in_ok-lexeme.ensures.shorter in
    let known = c.in-GoesOn.ensures c.tokens.kept.pieces.items (right_more (length c.args.source.now)
    (chars c.args.source.now) c.args.kept.now.pieces.items c.tokens.kept.pieces.items
    c.args.tried.now.findings.entries.items c.tokens.invariant.more c.requires.right) in
    let none = c.in_default-list_after.ensures.value in
    let start = length c.args.kept.now.pieces.items in
    let on = goes_on_by total (chars c.args.text.now) c.tokens.kept.pieces.items
    c.push.new.self.pieces.items c.push_stretch.new.self.pieces.items c.kind-kind.result start
    c.in-GoesOn.start c.in-GoesOn.end c.tokens.after_word c.tokens.depth _ _ _
    (chars c.in-GoesOn.following.now) _ c.tokens.invariant.reached t.front (sign_of _ _ c.kind-kind.ensures known.0)
    (λ w less. no_end_after total _ _ _ t.again less (none w (c.kind-kind.ensures ∙ less))) known.2
    (no_shorter c.args.kept.now.pieces.items c.tokens.kept.pieces.items c.tokens.invariant.more)
    c.in_ok-push-in-GoesOn.ensures c.kind-kind.ensures c.in_ok-push_stretch-in-GoesOn.ensures c.tokens.invariant.ends in
    let r = c.tokens.invariant.reached in
    let outside = subst (λ d. ReadsTo total (chars c.args.text.now) r.seen c.tokens.after_word d
    (chars c.tokens.rest.now)) c.if-depth-eq0.true r.reads in (
      refutes.less_refutes total (chars c.args.text.now) r.seen c.tokens.after_word _ _ _ _ outside
          t.front (sign_of _ _ c.kind-kind.ensures known.0) (subst (λ b. IsListOrNone b total
          (chars c.in-Found.after.now) (chars c.in-GoesOn.following.now)) c.if-not-is_list.true known.1),
      (
        on.0,
        omega arith,
        subst (λ d. Reaches total (chars c.args.text.now) (held_from c.push_stretch.new.self.pieces.items
            start) false d (chars c.in-GoesOn.following.now)) c.if-depth-eq0.true on.1,
      ),
    )

pub tokens-smaller-in-GoesOn : goal.tokens-smaller-in-GoesOn
tokens-smaller-in-GoesOn c =
    let t = taken c.tokens.rest.now _ c.in-Found.lexeme c.in-Found.from c.in-Found.after
    c.in-Found.is c.in_ok-lexeme.ensures.value c.in_ok-lexeme.ensures.shorter in
    let known = c.in-GoesOn.ensures c.tokens.kept.pieces.items (right_more (length c.args.source.now)
    (chars c.args.source.now) c.args.kept.now.pieces.items c.tokens.kept.pieces.items
    c.args.tried.now.findings.entries.items c.tokens.invariant.more c.requires.right) in
    let one : IsUtf8 c.in-GoesOn.following.now = search rules in
    let other : IsUtf8 c.in-Found.after.now = search rules in
    omega (
      arith,
      within _ (chars c.in-GoesOn.following.now) known.2.0,
      bytes_width c.in-GoesOn.following.now one,
      bytes_width c.in-Found.after.now other,
      t.shorter,
    )

pub tokens-preserved-in-GoesOn : goal.tokens-preserved-in-GoesOn
tokens-preserved-in-GoesOn c =
    let total = length c.args.source.now in
    let t = taken c.tokens.rest.now _ c.in-Found.lexeme c.in-Found.from c.in-Found.after
    c.in-Found.is c.in_ok-lexeme.ensures.value c.in_ok-lexeme.ensures.shorter in
    let known = c.in-GoesOn.ensures c.tokens.kept.pieces.items (right_more (length c.args.source.now)
    (chars c.args.source.now) c.args.kept.now.pieces.items c.tokens.kept.pieces.items
    c.args.tried.now.findings.entries.items c.tokens.invariant.more c.requires.right) in
    let none = c.in_default-list_after.ensures.value in
    let start = length c.args.kept.now.pieces.items in
    let on = goes_on_by total (chars c.args.text.now) c.tokens.kept.pieces.items
    c.push.new.self.pieces.items c.push_stretch.new.self.pieces.items c.kind-kind.result start
    c.in-GoesOn.start c.in-GoesOn.end c.tokens.after_word c.tokens.depth _ _ _
    (chars c.in-GoesOn.following.now) _ c.tokens.invariant.reached t.front (sign_of _ _ c.kind-kind.ensures known.0)
    (λ w less. no_end_after total _ _ _ t.again less (none w (c.kind-kind.ensures ∙ less))) known.2
    (no_shorter c.args.kept.now.pieces.items c.tokens.kept.pieces.items c.tokens.invariant.more)
    c.in_ok-push-in-GoesOn.ensures c.kind-kind.ensures c.in_ok-push_stretch-in-GoesOn.ensures c.tokens.invariant.ends in
    let one : IsUtf8 c.in-GoesOn.following.now = search rules in
    let other : IsUtf8 c.in-Found.after.now = search rules in
    let shorter : length c.in-GoesOn.following.now ≤ length c.in-Found.after.now = omega (
      arith,
      within _ (chars c.in-GoesOn.following.now) known.2.0,
      bytes_width c.in-GoesOn.following.now one,
      bytes_width c.in-Found.after.now other,
    ) in
    record {
      text = search rules;
      within = omega (arith, c.tokens.invariant.within, t.shorter, shorter);
      some = omega (arith, c.tokens.invariant.some, c.take.ensures.reads);
      few = omega (arith, c.tokens.invariant.few, c.take.ensures.reads, t.shorter, shorter);
      ends = on.0;
      lists = tell_end total c.args.tried.now.lists.spans.items _ (chars c.in-GoesOn.following.now)
          (joined _ _ (chars c.in-GoesOn.following.now) t.leaves known.2.0) c.tokens.invariant.lists;
      known = c.in_ok-lexeme.ensures.known;
      more = one_more c.args.kept.now.pieces.items c.push.new.self.pieces.items
          c.push_stretch.new.self.pieces.items _ c.in_ok-push_stretch-in-GoesOn.ensures
          (one_more c.args.kept.now.pieces.items c.tokens.kept.pieces.items
          c.push.new.self.pieces.items _ c.in_ok-push-in-GoesOn.ensures c.tokens.invariant.more);
      reached = on.1;
    }

pub returns-in-Ends-clause-value : goal.returns-in-Ends-clause-value
returns-in-Ends-clause-value c =
    let total = length c.args.source.now in
    let t = taken c.tokens.rest.now _ c.in-Found.lexeme c.in-Found.from c.in-Found.after
    c.in-Found.is c.in_ok-lexeme.ensures.value c.in_ok-lexeme.ensures.shorter in
    let same = c.kind-kind.ensures in
    let does = turned c.tokens.depth _ _ turn.Ends same c.in-Ends.ensures in
    let none = c.in_default-list_after.ensures.value in
    let text = chars c.args.text.now in
    let now = held_from c.tokens.kept.pieces.items (length c.args.kept.now.pieces.items) in
    let outside = subst (λ d. Reaches total text now c.tokens.after_word d (chars c.tokens.rest.now))
    does.0 c.tokens.invariant.reached in
    let list = ends total text now c.tokens.after_word c.tokens.depth _ _ _ _
    c.tokens.invariant.reached t.front does.0 does.1 in
    let settled = forget_word total text now c.tokens.after_word 0 _ outside (λ w. none_begins total
    _ _ _ _ t.front (λ less. no_end_after total _ _ _ t.again less (none w (same ∙ less)))) in (
      list.0,
      list.1,
      list.2,
      list.3,
      list.4,
      (
        joined text _ _ c.tokens.invariant.ends t.starts,
        omega arith,
        reached_alike total text now 0 _ _ (t.front ∙ sym t.again) settled,
      ),
    )

pub returns-in-Stops-clause-value : goal.returns-in-Stops-clause-value
returns-in-Stops-clause-value c =
    let total = length c.args.source.now in
    let t = taken c.tokens.rest.now _ c.in-Found.lexeme c.in-Found.from c.in-Found.after
    c.in-Found.is c.in_ok-lexeme.ensures.value c.in_ok-lexeme.ensures.shorter in
    let same = c.kind-kind.ensures in
    let does = turned c.tokens.depth _ _ turn.Stops same c.in-Stops.ensures in
    let none = c.in_default-list_after.ensures.value in
    let text = chars c.args.text.now in
    let now = held_from c.tokens.kept.pieces.items (length c.args.kept.now.pieces.items) in
    let outside = subst (λ d. Reaches total text now c.tokens.after_word d (chars c.tokens.rest.now))
    does.0 c.tokens.invariant.reached in (
      elim does.1 [
        | inl closing ↦ refutes.closing_refutes total text outside.seen c.tokens.after_word _ _ _ _
            outside.reads t.front closing
        | inr short ↦ refutes.short_circuit_refutes total text outside.seen c.tokens.after_word _ _
            _ _ outside.reads t.front short
      ],
      (
        c.tokens.invariant.ends,
        omega arith,
        forget_word total text now c.tokens.after_word 0 _ outside (λ w. none_begins total _ _ _ _
            t.front (λ less. no_end_after total _ _ _ t.again less (none w (same ∙ less)))),
      ),
    )

pub returns-in-Refutes-clause-value : goal.returns-in-Refutes-clause-value
returns-in-Refutes-clause-value c =
    let total = length c.args.source.now in
    let t = taken c.tokens.rest.now _ c.in-Found.lexeme c.in-Found.from c.in-Found.after
    c.in-Found.is c.in_ok-lexeme.ensures.value c.in_ok-lexeme.ensures.shorter in
    let same = c.kind-kind.ensures in
    let does = turned c.tokens.depth _ _ turn.Refutes same c.in-Refutes.ensures in
    let r = c.tokens.invariant.reached in
    refutes.token_refutes total
    (chars c.args.text.now) r.seen c.tokens.after_word c.tokens.depth _ _ _ _ r.reads t.front does

pub tokens-preserved : goal.tokens-preserved
tokens-preserved c =
    let total = length c.args.source.now in
    let t = taken c.tokens.rest.now _ c.in-Found.lexeme c.in-Found.from c.in-Found.after
    c.in-Found.is c.in_ok-lexeme.ensures.value c.in_ok-lexeme.ensures.shorter in
    let same = c.kind-kind.ensures in
    let does = turned c.tokens.depth _ _ (turn.Takes c.in-Takes.open) same c.in-Takes.ensures in
    let none = c.in_default-list_after.ensures.value in
    let start = length c.args.kept.now.pieces.items in
    let held = token_held c.tokens.kept.pieces.items c.push-in-Found.new.self.pieces.items
    c.kind-kind.result start c.in_ok-push.ensures
    (no_shorter c.args.kept.now.pieces.items c.tokens.kept.pieces.items c.tokens.invariant.more) in
    record {
      text = search rules;
      within = omega (arith, c.tokens.invariant.within, t.shorter, taken_within c.tokens.depth _ c.in-Takes.open does);
      some = omega (arith, c.tokens.invariant.some, c.take.ensures.reads);
      few = omega (arith, c.tokens.invariant.few, c.take.ensures.reads, t.shorter);
      ends = joined (chars c.args.text.now) _ _ c.tokens.invariant.ends t.leaves;
      lists = tell_end total c.args.tried.now.lists.spans.items _ _ t.leaves c.tokens.invariant.lists;
      known = c.in_ok-lexeme.ensures.known;
      more = one_more c.args.kept.now.pieces.items c.tokens.kept.pieces.items
          c.push-in-Found.new.self.pieces.items _ c.in_ok-push.ensures c.tokens.invariant.more;
      reached = moved total _ _ _ _ _ _ _ _
          (held.0 ∙ ap (λ x. held_from c.tokens.kept.pieces.items start ++ x ∷ []) same)
          (c.is_word-after_word.ensures ∙ ap is_word same) refl
          (takes total (chars c.args.text.now) (held_from c.tokens.kept.pieces.items start)
          c.tokens.after_word c.tokens.depth c.in-Takes.open _ _ _ _
          c.tokens.invariant.reached t.front
          (λ w less. no_end_after total _ _ _ t.again less (none w (same ∙ less))) does);
    }

pub returns : goal.returns
returns c =
    let r = c.tokens.invariant.reached in
    record {
      value = refutes.nothing_refutes (length c.args.source.now) (chars c.args.text.now) r.seen
          c.tokens.after_word c.tokens.depth (chars c.tokens.rest.now)
          (scanned_view c.in_ok-lexeme.field-0) r.reads (sym c.in_ok-lexeme.ensures.value)
          (λ kind from after e. no_token c.in_ok-lexeme.field-0 c.in_default.not-Found kind from after e);
      known = c.in_ok-lexeme.ensures.known;
      more = c.tokens.invariant.more;
      some = omega (arith, c.tokens.invariant.some, c.take.ensures.reads);
      few = omega (arith, c.tokens.invariant.few, c.take.ensures.reads);
    }
