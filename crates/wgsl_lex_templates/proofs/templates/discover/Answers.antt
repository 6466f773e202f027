use Rattle.std.proofs.Common.{rules, ◌≡◌, ◌≤◌, List, [], ◌∷◌, ◌++◌, take, chars, length, sym, ap, subst, ◌∙◌, refl, arith, true, append-nil, ◌<◌}
use Rattle.std.specs.Prelude.{◌^◌}
use Rattle.std.proofs.lemmas.List.{length-append}
use Rattle.wgsl_model.specs.Tokens.Places.{place, width}
use Rattle.wgsl_theory_grammar.proofs.Tokens.Cuts.{joined, after_token}
use Rattle.wgsl_theory_grammar.proofs.Tokens.Widths.{within}
use Rattle.wgsl_lex_templates.specs.declared.kept.Piece.{Piece}
use Rattle.wgsl_lex_templates.specs.Readings.{IsOutcome}
use Rattle.wgsl_lex_templates.specs.Findings.{AreRight, begun_list}
use Rattle.wgsl_lex_templates.specs.Spans.{is_before_all}
use Rattle.wgsl_lex_templates.proofs.TextLists.Begun.{found_right}
use Rattle.wgsl_lex_comments.proofs.Commented.{no_comments}
use Rattle.wgsl_theory_grammar.proofs.Tokens.Places.{bytes_width}
use Rattle.wgsl_lex_templates.proofs.TextLists.Listed.{before_all, no_lists}
use Rattle.wgsl_lex_templates.proofs.Readings.Found.{none_right, right_more}
use Rattle.wgsl_lex_templates.proofs.Readings.Pieces.{cut_back}
use Rattle.wgsl_lex_templates.proofs.TextLists.Stepped.{cut, ends_source, told_after, attempts_fit, reads_fit, reads_more, tried_none, tried_found, greater_fits, listed_costs, all_done}
use Rattle.wgsl_lex_templates.proofs.templates.discover.Goals as goal

pub characters-init : goal.characters-init
characters-init c = record {
  text = search rules;
  done = record {
    following = [];
    parts = sym (append-nil (chars c.args.source.now));
    lists = no_lists (length c.args.source.now) c.new-tried.result.lists.spans.items
        c.new-tried.ensures.lists;
    few = omega arith;
  };
  found = omega (arith, ap length c.new-tried.ensures.lists);
  reads = omega arith;
  known = no_comments (chars c.args.source.now) c.new-comments.result.found.items c.new-comments.ensures;
  right = none_right (length c.args.source.now) (chars c.args.source.now) c.new-kept.result.pieces.items
      c.new-tried.result.findings.entries.items c.new-tried.ensures.findings;
  each = omega (arith, ap length c.new-tried.ensures.lists);
}

pub split_at-requires : goal.split_at-requires
split_at-requires c =
    let k = cut c.args.source.now c.characters.left.now c.in-Some.before.now c.in-Some.field-0-1.now
    c.characters.tried.lists.spans.items c.characters.attempts c.utf8.source
    c.characters.invariant.text c.characters.invariant.done c.in-Some.ensures.cases in
    k.boundary

pub attempt-requires-clause-ends : goal.attempt-requires-clause-ends
attempt-requires-clause-ends c =
    let k = cut c.args.source.now c.characters.left.now c.in-Some.before.now c.in-Some.field-0-1.now
    c.characters.tried.lists.spans.items c.characters.attempts c.utf8.source
    c.characters.invariant.text c.characters.invariant.done c.in-Some.ensures.cases in
    ends_source c.args.source.now c.in-Some.before.now c.split_at.result.1.now
    c.characters.tried.lists.spans.items c.characters.attempts k c.split_at.ensures.back

pub attempt-requires-clause-reads : goal.attempt-requires-clause-reads
attempt-requires-clause-reads c =
    let k = cut c.args.source.now c.characters.left.now c.in-Some.before.now c.in-Some.field-0-1.now
    c.characters.tried.lists.spans.items c.characters.attempts c.utf8.source
    c.characters.invariant.text c.characters.invariant.done c.in-Some.ensures.cases in
    reads_fit c.characters.reads c.characters.attempts (length c.args.source.now)
    (length c.split_at.result.1.now) (search rules) (attempts_fit c.args.source.now
    c.in-Some.before.now c.characters.tried.lists.spans.items c.characters.attempts k)
    c.characters.invariant.reads (omega (arith, c.split_at.ensures.back_len))

pub attempt-requires-clause-lists : goal.attempt-requires-clause-lists
attempt-requires-clause-lists c =
    let k = cut c.args.source.now c.characters.left.now c.in-Some.before.now c.in-Some.field-0-1.now
    c.characters.tried.lists.spans.items c.characters.attempts c.utf8.source
    c.characters.invariant.text c.characters.invariant.done c.in-Some.ensures.cases in
    told_after c.args.source.now c.in-Some.before.now c.split_at.result.1.now
    c.characters.tried.lists.spans.items c.characters.attempts k c.split_at.ensures.back

pub attempt-requires-clause-right : goal.attempt-requires-clause-right
attempt-requires-clause-right c = c.characters.invariant.right

pub overflow_add-attempts : goal.overflow_add-attempts
overflow_add-attempts c =
    let k = cut c.args.source.now c.characters.left.now c.in-Some.before.now c.in-Some.field-0-1.now
    c.characters.tried.lists.spans.items c.characters.attempts c.utf8.source
    c.characters.invariant.text c.characters.invariant.done c.in-Some.ensures.cases in
    let fits = attempts_fit c.args.source.now c.in-Some.before.now
    c.characters.tried.lists.spans.items c.characters.attempts k in
    let small : length c.args.source.now < 2 ^ 64 = search rules in
    omega (arith, fits, small)

pub add-requires : goal.add-requires
add-requires c =
    let k = cut c.args.source.now c.characters.left.now c.in-Some.before.now c.in-Some.field-0-1.now
    c.characters.tried.lists.spans.items c.characters.attempts c.utf8.source
    c.characters.invariant.text c.characters.invariant.done c.in-Some.ensures.cases in
    let total = length c.args.source.now in
    let source = chars c.args.source.now in
    let text = chars c.split_at.result.1.now in
    let pieces = c.attempt.new.kept.pieces.items in
    let h = subst (IsOutcome total text pieces) c.in-Some-found.is c.in_ok-found.ensures.value in
    let ends = ends_source c.args.source.now c.in-Some.before.now c.split_at.result.1.now
    c.characters.tried.lists.spans.items c.characters.attempts k c.split_at.ensures.back in
    let following = joined source text h.2 ends (after_token text h.1 h.2 h.0 h.3) in
    let fits : width h.2 ≤ total =
    omega (arith, within source h.2 following, bytes_width c.args.source.now c.utf8.source) in
    let small : total < 2 ^ 64 = search rules in
    let some : 0 < total = omega (
      arith,
      attempts_fit c.args.source.now c.in-Some.before.now c.characters.tried.lists.spans.items
          c.characters.attempts k,
    ) in
    record {
      first = subst (λ n. is_before_all n c.characters.tried.lists.spans.items ≡ true) (sym k.at)
          (before_all total c.characters.tried.lists.spans.items k.back k.done k.fits k.lists);
      fits = omega (arith, greater_fits total pieces h.2 c.in-Some-found.found fits h.5 some, small);
    }

pub characters-preserved-in_ok-add : goal.characters-preserved-in_ok-add
characters-preserved-in_ok-add c =
    let k = cut c.args.source.now c.characters.left.now c.in-Some.before.now c.in-Some.field-0-1.now
    c.characters.tried.lists.spans.items c.characters.attempts c.utf8.source
    c.characters.invariant.text c.characters.invariant.done c.in-Some.ensures.cases in
    let total = length c.args.source.now in
    let source = chars c.args.source.now in
    let text = chars c.split_at.result.1.now in
    let pieces = c.attempt.new.kept.pieces.items in
    let h = subst (IsOutcome total text pieces) c.in-Some-found.is c.in_ok-found.ensures.value in
    let ends = ends_source c.args.source.now c.in-Some.before.now c.split_at.result.1.now
    c.characters.tried.lists.spans.items c.characters.attempts k c.split_at.ensures.back in
    let following = joined source text h.2 ends (after_token text h.1 h.2 h.0 h.3) in
    let fits : width h.2 ≤ total =
    omega (arith, within source h.2 following, bytes_width c.args.source.now c.utf8.source) in
    let start = length c.in-Some.before.now in
    let same : text ≡ 60 ∷ (k.back ++ k.done) = ap chars c.split_at.ensures.back ∙ k.text in
    let all : width source ≤ total = omega (arith, bytes_width c.args.source.now c.utf8.source) in
    let right = found_right total source pieces text (k.back ++ k.done) h.1 h.2 h.0 start
    c.in-Some-found.found all ends (k.at ∙ ap (place total) (sym same)) same h.3 h.4 h.5 in
    let entries = c.characters.tried.findings.entries.items in
    let before = subst (λ (x : List Piece). AreRight total source x entries)
    (sym (ap (λ n. take n pieces) c.len-read.ensures ∙ cut_back c.characters.kept.pieces.items
    pieces c.in_ok-found.ensures.more)) c.characters.invariant.right in
    let one = ap length c.in_ok-add.ensures.lists
    ∙ length-append c.characters.tried.lists.spans.items (begun_list start c.in-Some-found.found) in
    let cost = listed_costs start c.in-Some-found.found in
    record {
      text = search rules;
      done = tried_found c.args.source.now c.in-Some.before.now c.split_at.result.1.now
          c.characters.tried.lists.spans.items c.add.new.self.lists.spans.items
          c.characters.attempts start pieces h.1 h.2 h.0 c.in-Some-found.found k
          c.split_at.ensures.back h.3 h.4 fits h.5 refl c.in_ok-add.ensures.lists;
      found = omega (arith, one, cost.1, c.characters.invariant.found);
      reads = reads_more c.characters.reads c.attempt.new.reads c.characters.attempts
          (length c.args.source.now) (length c.split_at.result.1.now) c.characters.invariant.reads
          (omega (arith, c.split_at.ensures.back_len)) c.attempt.ensures.few;
      known = c.in_ok-found.ensures.known;
      right = c.in_ok-add.ensures.right total source before right;
      each = omega
          (arith, one, cost.0, c.characters.invariant.each, rw c.in-Some-found.is at c.in_ok-found.ensures.some);
    }

pub characters-preserved : goal.characters-preserved
characters-preserved c =
    let k = cut c.args.source.now c.characters.left.now c.in-Some.before.now c.in-Some.field-0-1.now
    c.characters.tried.lists.spans.items c.characters.attempts c.utf8.source
    c.characters.invariant.text c.characters.invariant.done c.in-Some.ensures.cases in
    let none = subst (IsOutcome (length c.args.source.now) (chars c.split_at.result.1.now)
    c.attempt.new.kept.pieces.items) c.in_default-found.is c.in_ok-found.ensures.value in
    record {
      text = search rules;
      done = tried_none c.args.source.now c.in-Some.before.now c.split_at.result.1.now
          c.characters.tried.lists.spans.items c.characters.attempts k c.split_at.ensures.back none;
      found = omega (arith, c.characters.invariant.found);
      reads = reads_more c.characters.reads c.attempt.new.reads c.characters.attempts
          (length c.args.source.now) (length c.split_at.result.1.now) c.characters.invariant.reads
          (omega (arith, c.split_at.ensures.back_len)) c.attempt.ensures.few;
      known = c.in_ok-found.ensures.known;
      right = right_more (length c.args.source.now)
          (chars c.args.source.now) c.characters.kept.pieces.items c.attempt.new.kept.pieces.items
          c.characters.tried.findings.entries.items c.in_ok-found.ensures.more c.characters.invariant.right;
      each = omega (arith, c.characters.invariant.each, rw c.in_default-found.is at c.in_ok-found.ensures.some);
    }

pub returns-clause-lists : goal.returns-clause-lists
returns-clause-lists c =
    all_done c.args.source.now c.characters.left.now c.characters.tried.lists.spans.items
    c.characters.attempts c.utf8.source c.characters.invariant.text c.in_default.ensures.cases
    c.characters.invariant.done
