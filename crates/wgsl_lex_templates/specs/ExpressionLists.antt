-- Token lists that are a list of expressions, which decides whether a `<` begins a template list
-- (WGSL, "Template Lists").
use Rattle.std.specs.Prelude.{◌≡◌, ℕ, List, map}
use Rattle.grammar.specs.Tokens.{Token}
use Rattle.grammar.specs.Grammar.{Mode.checking, Derives}
use Rattle.wgsl_model.specs.Trees.Expressions.{ExpressionNode}
use Rattle.wgsl_model.specs.Grammar.Symbols.{Symbol.expressions}
use Rattle.wgsl_model.specs.Grammar.Written.{written}
use Rattle.wgsl_lex_token.specs.declared.kind_table.TokenKind.{TokenKind}
use Rattle.wgsl_lex_token.specs.View.{classes}

-- the classes of tokens
abbrev pub classes_of : List Token → List ℕ
classes_of ts = map (λ (t : Token). t.class) ts

-- the tokens are of these kinds, in this order
abbrev pub AreOfKinds : List Token → List TokenKind → Type 0
AreOfKinds ts kinds = classes_of ts ≡ classes kinds

-- the grammar derives list(Expression) from all of the tokens, and no check finds a fault
abbrev pub IsExpressionList : List Token → Type 0
IsExpressionList ts = (es : List ExpressionNode) × Derives checking written expressions es ts
