-- What the code takes tokens for.
use Rattle.std.specs.Prelude.{◌≡◌, ℕ, Bool, true, false, List, ◌∷◌, [], ◌==◌, if◌then◌else◌, map}
use Rattle.grammar.specs.Tokens.{Token}
use Rattle.wgsl_model.specs.Faults.Kinds.{span_of_token}
use Rattle.wgsl_model.specs.Tokens.ClassTable.{SymPeriod}
use Rattle.wgsl_span.specs.declared.Span.{Span}
use Rattle.wgsl_span.specs.View.{span_view}
use Rattle.wgsl_lex_token.specs.declared.kind_table.TokenKind.{TokenKind}
use Rattle.wgsl_lex_token.specs.View.{class_of_kind}
use Rattle.wgsl_lexer.specs.TextTokens.{tokens_left}
use Rattle.wgsl_lexer.specs.declared.text_tokens.TextTokens.{TextTokens}
use Rattle.wgsl_read_nesting.specs.Nesting.{opens_bracket, closes_bracket, is_operand, may_prefix}
use Rattle.wgsl_read_nesting.specs.declared.effect.Effect.{Effect}
use Rattle.wgsl_read_nesting.specs.declared.effect.Effect.TheVariants.{Opens, Closes, GoesOn, MayPrefix, Ends}
use Rattle.wgsl_read_nesting.specs.declared.open.Open.{Open}
use Rattle.wgsl_read_nesting.specs.declared.open.Open.TheVariants.{Bracket, Operator}

-- what a class does
abbrev pub effect : ℕ → Effect
effect class =
    if opens_bracket class then Opens
    else if closes_bracket class then Closes
    else if is_operand class then GoesOn
    else if class == SymPeriod then GoesOn
    else if may_prefix class then MayPrefix
    else Ends

-- the innermost is a prefix operator
abbrev pub begins_with_operator : List Open → Bool
begins_with_operator [] = false
begins_with_operator (Operator ∷ opened) = true
begins_with_operator (Bracket ∷ opened) = false

-- the classes of the tokens that are left
abbrev pub token_classes : TextTokens → List ℕ
token_classes tokens = map (λ t. t.class) (tokens_left tokens)

-- the first of some tokens is of a kind and at a span, and these are after it
abbrev pub IsNext : TokenKind → Span → List Token → List Token → Type 0
IsNext kind span ts left = (t : Token) × (ts ≡ t ∷ left) × (t.class ≡ class_of_kind kind)
    × (span_view span ≡ span_of_token t)
