use Rattle.std.proofs.Common.{◌≡◌, ◌==◌, ℕ, false, List, take, drop, sym, subst, chars, length, ◌∙◌, ap, arith, eqb-true}
use Rattle.grammar.proofs.Reading.Sets.{clash}
use Rattle.wgsl_model.specs.Tokens.ClassTable.{SymLessThan}
use Rattle.wgsl_lex_token.specs.View.{class_of_kind}
use Rattle.wgsl_lex_scanner.specs.View.{lexeme_view}
use Rattle.wgsl_theory_grammar.proofs.Tokens.Cuts.{joined}
use Rattle.wgsl_theory_templates.proofs.Swaps.Attempts.{none_begins}
use Rattle.wgsl_theory_templates.proofs.Swaps.RefutesAround.{closed_refutes}
use Rattle.wgsl_lex_templates.specs.declared.kept.Piece.{Piece}
use Rattle.wgsl_lex_templates.specs.Kept.{BeginWith, held}
use Rattle.wgsl_lex_templates.specs.Reached.{GoesOn}
use Rattle.wgsl_lex_templates.specs.Readings.{IsReading}
use Rattle.wgsl_lex_templates.proofs.Readings.Pieces.{cut_back, no_shorter}
use Rattle.wgsl_lex_templates.proofs.Readings.Reached.{shortened}
use Rattle.wgsl_lex_templates.proofs.TextLists.Ends.{tell_end, after_past}
use Rattle.wgsl_lex_templates.proofs.TextLists.Scans.{taken}
use Rattle.wgsl_lex_templates.proofs.attempt.attempt.Goals as goal

pub returns-then-not-is_less_than-clause-value : goal.returns-then-not-is_less_than-clause-value
returns-then-not-is_less_than-clause-value c =
    none_begins (length c.args.source.now) (chars c.args.text.now) (chars c.in-Found.from.now)
    (chars c.in-Found.after.now) (lexeme_view c.in-Found.lexeme)
    (taken c.args.text.now _ c.in-Found.lexeme c.in-Found.from c.in-Found.after c.in-Found.is
    c.in_ok-lexeme.ensures.value c.in_ok-lexeme.ensures.shorter).front
    (λ less. absurd (not_less (class_of_kind c.kind.result) (c.kind.ensures ∙ less)
    (sym c.is_less_than.ensures ∙ c.if-not-is_less_than.true)))
  where
    not_less : (class : ℕ) → class ≡ SymLessThan → (class == SymLessThan) ≡ false → ⊥
    not_less class e f = clash _ (ap (λ x. x == SymLessThan) e) f

pub read-requires-clause-ends : goal.read-requires-clause-ends
read-requires-clause-ends c =
    joined (chars c.args.source.now) (chars c.args.text.now) (chars c.in-Found.after.now) c.requires.ends
    (taken c.args.text.now _ c.in-Found.lexeme c.in-Found.from c.in-Found.after c.in-Found.is
    c.in_ok-lexeme.ensures.value c.in_ok-lexeme.ensures.shorter).leaves

pub read-requires-clause-lists : goal.read-requires-clause-lists
read-requires-clause-lists c =
    tell_end (length c.args.source.now) c.args.tried.now.lists.spans.items
    (drop 1 (chars c.args.text.now)) (chars c.in-Found.after.now)
    (after_past (chars c.args.text.now) (chars c.in-Found.from.now) (chars c.in-Found.after.now)
    (lexeme_view c.in-Found.lexeme) (taken c.args.text.now _ c.in-Found.lexeme c.in-Found.from
    c.in-Found.after c.in-Found.is c.in_ok-lexeme.ensures.value c.in_ok-lexeme.ensures.shorter).front)
    c.requires.lists

pub returns-then-not-branch-clause-value : goal.returns-then-not-branch-clause-value
returns-then-not-branch-clause-value c =
    let total = length c.args.source.now in
    let after = chars c.in-Found.after.now in
    let pieces = c.read.new.kept.pieces.items in
    let read = subst (IsReading total after pieces (length c.args.kept.now.pieces.items))
    c.in-Ends.is c.in_ok-read.ensures.value in
    let less = sym c.kind.ensures ∙ eqb-true (class_of_kind c.kind.result) SymLessThan
    (sym c.is_less_than.ensures ∙ c.if-not-is_less_than.false) in
    let test = c.in_ok-is_list-in-Ends.ensures.value read.1
    (read.3 ∙ ap (λ start. held pieces start (length pieces)) (sym c.len-start.ensures)) in (
      lexeme_view c.in-Found.lexeme,
      chars c.in-Found.from.now,
      after,
      (taken c.args.text.now _ c.in-Found.lexeme c.in-Found.from c.in-Found.after c.in-Found.is
          c.in_ok-lexeme.ensures.value c.in_ok-lexeme.ensures.shorter).front,
      less,
      closed_refutes total after read.0 (chars c.in-Ends.greater.now) read.2
          (λ list. let yes' = test.1 (read.4.1 list) in clash _ yes' c.if-not-branch.true),
    )

pub keep_short-requires : goal.keep_short-requires
keep_short-requires c =
    record {
      within = omega (
        arith,
        c.len-start.ensures,
        no_shorter c.args.kept.now.pieces.items c.read.new.kept.pieces.items c.in_ok-read.ensures.more,
      );
      kinds = c.in_ok-is_list-in-Ends.ensures.kinds;
    }

pub returns-in_ok-keep_short-in-Ends-clause-value : goal.returns-in_ok-keep_short-in-Ends-clause-value
returns-in_ok-keep_short-in-Ends-clause-value c =
    let total = length c.args.source.now in
    let after = chars c.in-Found.after.now in
    let pieces = c.read.new.kept.pieces.items in
    let now = c.keep_short.new.kept.pieces.items in
    let start = c.len-start.result in
    let read = subst (IsReading total after pieces (length c.args.kept.now.pieces.items))
    c.in-Ends.is c.in_ok-read.ensures.value in
    let test = c.in_ok-is_list-in-Ends.ensures.value read.1
    (read.3 ∙ ap (λ start. held pieces start (length pieces)) (sym c.len-start.ensures)) in
    let less = sym c.kind.ensures ∙ eqb-true (class_of_kind c.kind.result) SymLessThan
    (sym c.is_less_than.ensures ∙ c.if-not-is_less_than.false) in
    let greater = chars c.in-Ends.greater.now in
    let on = subst (λ start. GoesOn total pieces after greater start (length pieces))
    (sym c.len-start.ensures) read.5 in
    let short = shortened total after (held now start (length now))
    (held pieces start (length pieces)) false 0 greater c.in_ok-keep_short-in-Ends.ensures.short on.2 in
    let kept = subst (GoesOn total now after greater start) (sym c.len-in-Ends.ensures) (on.0, omega arith, short) in (
      lexeme_view c.in-Found.lexeme,
      chars c.in-Found.from.now,
      after,
      (taken c.args.text.now _ c.in-Found.lexeme c.in-Found.from c.in-Found.after c.in-Found.is
          c.in_ok-lexeme.ensures.value c.in_ok-lexeme.ensures.shorter).front,
      less,
      (greater, c.place-in-Ends.ensures, (read.0, read.2, read.4.0 (test.0 c.if-not-branch.false)), kept),
    )

pub returns-in_ok-keep_short-in-Ends-clause-more : goal.returns-in_ok-keep_short-in-Ends-clause-more
returns-in_ok-keep_short-in-Ends-clause-more c =
    let old = c.args.kept.now.pieces.items in
    let pieces = c.read.new.kept.pieces.items in
    let cut : take c.len-start.result pieces ≡ old = ap (λ n. take n pieces) c.len-start.ensures
    ∙ cut_back old pieces c.in_ok-read.ensures.more in
    subst (λ (x : List Piece). BeginWith x c.keep_short.new.kept.pieces.items) cut
    c.in_ok-keep_short-in-Ends.ensures.more
