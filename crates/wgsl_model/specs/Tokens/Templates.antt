-- Where a template list is in a text, and its tokens (WGSL, "Template Lists"). The draft finds
-- template lists by brackets alone; here what is between `<` and `>` has to derive a list of
-- expressions too.
use Rattle.std.specs.Prelude.{◌≡◌, ℕ, zero, suc, Bool, true, not, ◌||◌, ◌==◌, List, [], ◌∷◌, ◌++◌, drop, length}
use Rattle.grammar.specs.Tokens.{Token}
use Rattle.grammar.specs.Grammar.{Mode.checking, Derives, is_among}
use Rattle.wgsl_model.specs.Tokens.ClassTable.{SymAndAnd, SymBracketLeft, SymBracketRight, SymGreaterThan, SymGreaterThanEqual, SymShiftRight, SymLessThan, SymOrOr, SymParenLeft, SymParenRight, SymShiftRightAssign, Ident, TemplateArgsStart, TemplateArgsEnd, is_keyword}
use Rattle.wgsl_model.specs.Tokens.Kind.{Kind, plain, placed}
use Rattle.wgsl_model.specs.Tokens.Raw.{raw, Raw.token}
use Rattle.wgsl_model.specs.Tokens.Places.{place}
use Rattle.wgsl_model.specs.Trees.Expressions.{ExpressionNode}
use Rattle.wgsl_model.specs.Grammar.Symbols.{Symbol.expressions}
use Rattle.wgsl_model.specs.Grammar.Written.{written}

-- a word that a template list may follow: an identifier or a keyword, no reserved word
abbrev pub is_word : ℕ → Bool
is_word class = class == Ident || is_keyword class

-- `(` or `[`
abbrev pub is_opening : ℕ → Bool
is_opening class = is_among class (SymParenLeft ∷ SymBracketLeft ∷ [])

-- `)` or `]`
abbrev pub is_closing : ℕ → Bool
is_closing class = is_among class (SymParenRight ∷ SymBracketRight ∷ [])

-- a token that begins with `>`
abbrev pub begins_with_greater : ℕ → Bool
begins_with_greater class = is_among class
    (SymGreaterThan ∷ SymGreaterThanEqual ∷ SymShiftRight ∷ SymShiftRightAssign ∷ [])

-- `&&` or `||`
abbrev pub is_short_circuit : ℕ → Bool
is_short_circuit class = is_among class (SymAndAnd ∷ SymOrOr ∷ [])

-- a token that a list goes on after, with a number of brackets open: none of the above but words,
-- save that within brackets those that begin with `>`, `&&` and `||` are plain
abbrev pub goes_on : ℕ → ℕ → Bool
goes_on zero class = not (is_opening class || is_closing class || begins_with_greater class || is_short_circuit class)
goes_on (suc depth) class = not (is_opening class || is_closing class)

-- which texts begin with a template list: the text, the tokens of the list and the text after it
abbrev pub TemplateRelation : Type 1
TemplateRelation = List ℕ → List Token → List ℕ → Type 0

-- no template list begins the text
abbrev pub NoTemplate : TemplateRelation → List ℕ → Type 0
NoTemplate IsTemplate text = (ts : List Token) (rest : List ℕ) → IsTemplate text ts rest → ⊥

-- What is inside a template list: from a text, with a number of brackets open, the tokens up to the
-- `>` that ends the list, and the text from that `>` on. None of these cases is for a closing
-- bracket without its opening one, `&&` or `||` outside brackets, an invalid token or the end of
-- the text.
pub data Inside (total : ℕ) (IsTemplate : TemplateRelation) : ℕ → List ℕ → List Token → List ℕ → Type 0 where
  -- outside brackets the first token that begins with `>` ends the list
  at_greater : (text end after : List ℕ) (kind : Kind) → raw text ≡ token kind end after
      → begins_with_greater kind.class ≡ true → Inside total IsTemplate 0 text [] end
  at_opening : (depth : ℕ) (text from after end : List ℕ) (kind : Kind) (ts : List Token)
      → raw text ≡ token kind from after → is_opening kind.class ≡ true
      → Inside total IsTemplate (suc depth) after ts end
      → Inside total IsTemplate depth text (placed kind (place total from) (place total after) ∷ ts) end
  at_closing : (depth : ℕ) (text from after end : List ℕ) (kind : Kind) (ts : List Token)
      → raw text ≡ token kind from after → is_closing kind.class ≡ true
      → Inside total IsTemplate depth after ts end
      → Inside total IsTemplate (suc depth) text (placed kind (place total from) (place total after) ∷ ts) end
  -- a template list after a word is taken whole
  at_template : (depth : ℕ) (text from after rest end : List ℕ) (kind : Kind) (us ts : List Token)
      → raw text ≡ token kind from after → is_word kind.class ≡ true → IsTemplate after us rest
      → Inside total IsTemplate depth rest ts end → Inside total IsTemplate depth text
      (placed kind (place total from) (place total after) ∷ (us ++ ts)) end
  -- every other token is taken as it is
  at_other : (depth : ℕ) (text from after end : List ℕ) (kind : Kind) (ts : List Token)
      → raw text ≡ token kind from after → goes_on depth kind.class ≡ true
      → (is_word kind.class ≡ true → NoTemplate IsTemplate after)
      → Inside total IsTemplate depth after ts end
      → Inside total IsTemplate depth text (placed kind (place total from) (place total after) ∷ ts) end

-- a template list at the front of a text: `<`, what is inside, which is a list of expressions,
-- and one `>`, whatever token it begins
pub data Enclosed (total : ℕ) (IsTemplate : TemplateRelation) : List ℕ → List Token → List ℕ → Type 0 where
  enclosed : (text from after end : List ℕ) (kind : Kind) (ts : List Token) (v : List ExpressionNode)
      → raw text ≡ token kind from after → kind.class ≡ SymLessThan → Inside total IsTemplate 0 after ts end
      → Derives checking written expressions v ts
      → Enclosed total IsTemplate text (placed (plain TemplateArgsStart) (place total from) (place total after)
      ∷ (ts ++ placed (plain TemplateArgsEnd) (place total end) (place total (drop 1 end)) ∷ [])) (drop 1 end)

-- the same, where the lists are within one another at most a number of deep
abbrev pub TemplateUpTo : ℕ → ℕ → List ℕ → List Token → List ℕ → Type 0
TemplateUpTo zero total text ts rest = ⊥
TemplateUpTo (suc bound) total text ts rest = Enclosed total (TemplateUpTo bound total) text ts rest

-- A text that ends a source of a number of bytes begins with a template list: its tokens, and the
-- text after it. What is inside is shorter than the text, so the text's length bounds all template
-- lists in it.
abbrev pub Template : ℕ → List ℕ → List Token → List ℕ → Type 0
Template total text ts rest = TemplateUpTo (length text) total text ts rest
