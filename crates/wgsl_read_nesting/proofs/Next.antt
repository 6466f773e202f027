-- The first of some tokens, its kind and its place.
use Rattle.std.proofs.Common.{◌≡◌, ℕ, List, [], ◌∷◌, ap, ap₂, drop, map, sym, ◌∙◌}
use Rattle.grammar.specs.Tokens.{Token}
use Rattle.grammar.specs.Tokens as plain
use Rattle.wgsl_span.specs.declared.Span.{Span}
use Rattle.wgsl_lex_token.specs.declared.kind_table.TokenKind.{TokenKind}
use Rattle.wgsl_lex_token.specs.View.{class_of_kind}
use Rattle.wgsl_lexer.specs.TextTokens.{StartWithKind, BeginAt}
use Rattle.wgsl_read_nesting.specs.Effects.{IsNext}

pub is_next : (ts left : List Token) (kind : TokenKind) (span : Span) → StartWithKind ts kind → BeginAt ts span
    → left ≡ drop 1 ts → IsNext kind span ts left
is_next [] left kind span h p e = absurd h
is_next (t ∷ ts) left kind span h p e = (
  t,
  ap (λ (us : List Token). t ∷ us) (sym e),
  h,
  ap₂ (λ (a b : ℕ). let it : plain.Span = record { start = a; end = b } in it) (sym p.0) (sym p.1),
)

-- its class is that of the kind
pub next_class : (ts left : List Token) (kind : TokenKind) (span : Span) → IsNext kind span ts left
    → map (λ (t : Token). t.class) ts ≡ class_of_kind kind ∷ map (λ (t : Token). t.class) left
next_class ts left kind span next =
    ap (map (λ (t : Token). t.class)) next.1
    ∙ ap (λ (c : ℕ). c ∷ map (λ (t : Token). t.class) left) next.2
