-- Where a text nests deeper than a number of levels.
use Rattle.std.proofs.Common.{ℕ, List, length, ap, subst, arith}
use Rattle.std.specs.Str.{IsUtf8, chars}
use Rattle.grammar.specs.Tokens.{Token}
use Rattle.grammar.specs.Tokens as plain
use Rattle.wgsl_model.specs.Tokens.TokenList.{width}
use Rattle.wgsl_theory_grammar.proofs.Tokens.Places.{bytes_width}
use Rattle.wgsl_span.specs.declared.Span.{Span}
use Rattle.wgsl_span.specs.View.{span_view}
use Rattle.wgsl_lexer.specs.InOrder.{AreInOrder}
use Rattle.wgsl_lexer.proofs.InOrder.{tokens_in_order, one_in_order}
use Rattle.wgsl_read_cursor.specs.Places.{StandsWithin}
use Rattle.wgsl_format.specs.Deeper.{NestsDeeper}

-- it is in the text
pub deeper_within : (depth : ℕ) (text : List ℕ) (span : Span) → IsUtf8 text
    → NestsDeeper depth (chars text) (span_view span) → StandsWithin span (length text)
deeper_within depth text span valid (ts, e, list, (before, following, t, split, same, up, over)) =
    let size = width (chars text) in
    let o = one_in_order 0 size before following t
    (subst (λ z. AreInOrder 0 z size) split (tokens_in_order (chars text) ts e list)) in
    let start = ap (λ (s : plain.Span). s.start) same in
    let end = ap (λ (s : plain.Span). s.end) same in
    (omega (arith, o.1, start, end), omega (arith, o.2, end, bytes_width text valid))
