use Rattle.std.proofs.Common.{◌≡◌, ℕ, ◌<◌, ◌==◌, true, false, List, [], ◌∷◌, length, refl, sym, subst, ◌∙◌, chars, arith}
use Rattle.std.specs.Prelude.{string_bytes}
use Rattle.std.proofs.lemmas.Result.{IfOk-weaker}
use Rattle.std.proofs.lemmas.Bool.Decides.{nat_tests}
use Rattle.wgsl_model_tidy.specs.Pieces.{pieces}
use Rattle.wgsl_model_tidy.specs.LaidOut.{laid_out}
use Rattle.wgsl_lexer.specs.TextTokens.{tokens_left}
use Rattle.wgsl_format_layout.specs.Layouts.{layout_view}
use Rattle.wgsl_format_layout.specs.Spots.{IsNext, WritesAll}
use Rattle.wgsl_format_layout.specs.declared.marks.MarkedToken.{MarkedToken}
use Rattle.wgsl_format_layout.proofs.TokensCut.{left_boundary}
use Rattle.wgsl_format_layout.proofs.SourceLaid.{nothing_laid, laid_read, laid_all, read_fewer, end_laid}
use Rattle.wgsl_format_layout.proofs.output.laid_out.Goals as goal

some_left : (n : ℕ) → (n == 0) ≡ false → 0 < n
some_left n h = grind (arith, nat_tests)

none_left : (n : ℕ) → (n == 0) ≡ true → n ≡ 0
none_left n h = grind (arith, nat_tests)

pub statements-init : goal.statements-init
statements-init c =
    let source = c.args.source.now in
    let all = tokens_left c.args.tokens in
    let marks = c.new-marks.result in
    let m = c.new-marks.ensures in
    let o = c.in_ok-output.ensures in
    let e = nothing_laid source c.args.layout all marks c.in_ok-output.output m.left m.source
    m.layout o.layout m.context
    m.byte m.tokens (o.column ∙ sym m.column) (o.breaks ∙ sym m.breaks) o.nothing
    (o.is_at (layout_view c.args.layout) (pieces (chars source) all)) in
    laid_read source c.args.layout all marks c.read.new.self 0 c.in_ok-output.output e
    (c.in_ok-read.ensures.read e.state e.context) c.in_ok-read.ensures.left

pub write_all-requires-clause-next : goal.write_all-requires-clause-next
write_all-requires-clause-next c =
    let l = c.statements.invariant in (
      l.spot,
      c.statements.marks,
      l.state,
      subst (λ (ts : List MarkedToken). IsNext c.args.source.now ts 0 c.statements.byte
          c.statements.output l.spot c.statements.marks l.state) (sym c.deref.ensures.value) l.next,
    )

pub statements-smaller : goal.statements-smaller
statements-smaller c =
    let l = c.statements.invariant in
    let r = c.in_ok-read-2.ensures.read l.state l.context in
    let fewer = read_fewer _ _ _ _ _ _ _ _ r.read in
    omega (
      arith,
      fewer,
      c.statements.marks.tokens.ok.0,
      some_left _ (sym c.is_empty.ensures ∙ c.statements-test.true),
    )

pub statements-preserved : goal.statements-preserved
statements-preserved c =
    let source = c.args.source.now in
    let all = tokens_left c.args.tokens in
    let l = c.statements.invariant in
    let wrote = subst (λ (ts : List MarkedToken). WritesAll source ts c.statements.byte c.statements.output
    c.in_ok-byte.byte c.write_all.new.self) c.deref.ensures.value c.in_ok-byte.ensures in
    let e = laid_all source c.args.layout all c.statements.marks c.statements.byte c.in_ok-byte.byte
    c.statements.output c.write_all.new.self l (wrote l.spot c.statements.marks l.state l.next) in
    laid_read source c.args.layout all c.statements.marks c.read-in-statements.new.self c.in_ok-byte.byte
    c.write_all.new.self e (c.in_ok-read-2.ensures.read e.state e.context) c.in_ok-read-2.ensures.left

pub range_from-requires : goal.range_from-requires
range_from-requires c = λ _. left_boundary c.args.source.now c.statements.byte
    c.statements.invariant.next.left c.utf8.source c.statements.invariant.next.places

none : (ms : List MarkedToken) → length ms ≡ 0 → ms ≡ []
none [] e = refl
none (m ∷ ms) e = absurd (omega (arith, e))

pub returns : goal.returns
returns c =
    let empty = none c.statements.marks.tokens.items (omega (
      arith,
      c.statements.marks.tokens.ok.0,
      none_left _ (sym c.is_empty.ensures ∙ c.statements-test.false),
    )) in
    IfOk-weaker c.end.result _ (λ text. chars (string_bytes text) ≡ laid_out (layout_view c.args.layout)
    (pieces (chars c.args.source.now) (tokens_left c.args.tokens)))
    (λ text h. end_laid c.args.source.now c.range_from.result.now (chars (string_bytes text)) c.args.layout
    (tokens_left c.args.tokens) c.statements.marks c.statements.byte c.in_ok-write_comments.field-0 c.statements.output
    c.write_comments.new.self c.statements.invariant empty c.utf8.source c.range_from.ensures.value
    c.in_ok-write_comments.ensures h) c.end.ensures
