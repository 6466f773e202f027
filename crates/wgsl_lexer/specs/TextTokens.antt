-- The tokens of a text that are left, where what is next is known.
use Rattle.std.specs.Prelude.{◌≡◌, ℕ, List, [], ◌∷◌, chars, reverse, Option, Some, None}
use Rattle.grammar.specs.Tokens.{Token}
use Rattle.grammar.specs.Endings.{Ending, Ending.finished, Ending.carried}
use Rattle.wgsl_model.specs.Tokens.ClassTable.{Ident}
use Rattle.wgsl_model.specs.Tokens.Kind.{named, placed}
use Rattle.wgsl_model.specs.Faults.Kinds.{invalid_token}
use Rattle.wgsl_span.specs.declared.Span.{Span}
use Rattle.wgsl_span.specs.View.{span_view}
use Rattle.wgsl_lex_token.specs.declared.kind_table.TokenKind.{TokenKind}
use Rattle.wgsl_lex_token.specs.declared.placed.PlacedToken.{PlacedToken}
use Rattle.wgsl_lex_token.specs.Placed.{placed_view}
use Rattle.wgsl_lex_token.specs.View.{class_of_kind}
use Rattle.wgsl_lex_scanner.specs.View.{lexeme_view}
use Rattle.wgsl_lexer.specs.declared.text_tokens.TextTokens.{TextTokens}
use Rattle.wgsl_lexer.specs.declared.text_tokens.Next.{Next}
use Rattle.wgsl_lexer.specs.declared.text_tokens.Next.TheVariants as next
use Rattle.wgsl_theory_templates.specs.Rest.Left.{LeftOf}
use Rattle.wgsl_theory_templates.proofs.Rest.LeftTokens.{HasLeft, left_exists}

-- these tokens are in the text after what is next, and this is how they end
abbrev pub AreAfter : TextTokens → List Token → Ending → Type 0
AreAfter t ts e = LeftOf t.total (reverse t.ends.items) t.after_word (chars t.rest.now) ts e

-- there is one such list
abbrev pub has_left : (t : TextTokens) → HasLeft t.total (reverse t.ends.items) t.after_word (chars t.rest.now)
has_left t = left_exists t.total (reverse t.ends.items) t.after_word (chars t.rest.now)

-- what is next and the tokens after it
abbrev pub from_next : Next → List Token → List Token
from_next (next.Token lexeme span) ts = placed (lexeme_view lexeme) span.start span.end ∷ ts
from_next (next.Invalid span) ts = []
from_next next.NoneLeft ts = []

-- how they end
abbrev pub end_from_next : Next → Ending → Ending
end_from_next (next.Token lexeme span) e = e
end_from_next (next.Invalid span) e = carried (invalid_token (span_view span))
end_from_next next.NoneLeft e = finished

-- the tokens that are left
abbrev pub tokens_left : TextTokens → List Token
tokens_left t = from_next t.next (has_left t).0

-- how they end
abbrev pub ending_left : TextTokens → Ending
ending_left t = end_from_next t.next (has_left t).1

-- a token is next
abbrev pub IsToken : Next → Type 0
IsToken (next.Token lexeme span) = Unit {0}
IsToken _ = ⊥

-- the first of some tokens is of a kind
abbrev pub StartWithKind : List Token → TokenKind → Type 0
StartWithKind [] kind = ⊥
StartWithKind (t ∷ ts) kind = t.class ≡ class_of_kind kind

-- the first of some tokens is at a span
abbrev pub BeginAt : List Token → Span → Type 0
BeginAt [] span = ⊥
BeginAt (t ∷ ts) span = (t.start ≡ span.start) × (t.end ≡ span.end)

-- the first of some tokens is a name of these bytes
abbrev pub BeginWithName : List Token → List ℕ → Type 0
BeginWithName [] text = ⊥
BeginWithName (t ∷ ts) text = t ≡ placed (named Ident text) t.start t.end

-- the first of some tokens was taken, if there is one
abbrev pub IsTaken : List Token → Option PlacedToken → List Token → Type 0
IsTaken ts None us = (ts ≡ []) × (us ≡ [])
IsTaken ts (Some p) us = ts ≡ placed_view p ∷ us
