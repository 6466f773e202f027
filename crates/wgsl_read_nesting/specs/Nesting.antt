-- How deep a text nests: how many brackets, blocks, template lists and prefix operators are open at
-- one place.
use Rattle.std.specs.Prelude.{ℕ, max, Bool, true, false, List, [], ◌∷◌, length, drop, map, ◌==◌, if◌then◌else◌}
use Rattle.grammar.specs.Grammar.{is_among}
use Rattle.grammar.specs.Tokens.{Token}
use Rattle.wgsl_model.specs.Tokens.ClassTable.{SymAnd, SymBang, SymBracketLeft, SymBracketRight, SymBraceLeft, SymBraceRight, SymMinus, SymParenLeft, SymParenRight, SymPeriod, SymStar, SymTilde, KwFalse, KwTrue, Ident, ReservedWord, AbstractInt, I32, U32, AbstractFloat, F32, F16, TemplateArgsStart, TemplateArgsEnd}
use Rattle.wgsl_read_nesting.specs.declared.open.Open.{Open}
use Rattle.wgsl_read_nesting.specs.declared.open.Open.TheVariants.{Bracket, Operator}

-- it opens a bracket, a block or a template list
abbrev pub opens_bracket : ℕ → Bool
opens_bracket class = is_among class (SymParenLeft ∷ SymBracketLeft ∷ SymBraceLeft ∷ TemplateArgsStart ∷ [])

-- it closes one
abbrev pub closes_bracket : ℕ → Bool
closes_bracket class = is_among class (SymParenRight ∷ SymBracketRight ∷ SymBraceRight ∷ TemplateArgsEnd ∷ [])

-- a name or a literal
abbrev pub is_operand : ℕ → Bool
is_operand class = is_among class
    (Ident ∷ ReservedWord ∷ KwTrue ∷ KwFalse ∷ AbstractInt ∷ I32 ∷ U32 ∷ AbstractFloat ∷ F32 ∷ F16 ∷ [])

-- an operand can end with it, so that an operator after it is between two
abbrev pub is_operand_end : ℕ → Bool
is_operand_end class = if is_operand class then true
    else is_among class (SymParenRight ∷ SymBracketRight ∷ TemplateArgsEnd ∷ [])

-- an operator that can be before an operand
abbrev pub may_prefix : ℕ → Bool
may_prefix class = is_among class (SymMinus ∷ SymBang ∷ SymTilde ∷ SymStar ∷ SymAnd ∷ [])

-- what is open, the innermost first, without the prefix operators before the innermost bracket
abbrev pub without_operators : List Open → List Open
without_operators [] = []
without_operators (Operator ∷ opened) = without_operators opened
without_operators (Bracket ∷ opened) = Bracket ∷ opened

-- What is open after a token. A prefix operator is open until its operand ends: with `.`, brackets
-- and template lists the operand goes on.
abbrev pub open_after : Bool → ℕ → List Open → List Open
open_after after_operand class opened =
    if opens_bracket class then Bracket ∷ opened
    else if closes_bracket class then drop 1 (without_operators opened)
    else if is_operand class then opened
    else if class == SymPeriod then opened
    else if may_prefix class then if after_operand then without_operators opened else Operator ∷ opened
    else without_operators opened

-- the greatest number that is open at one place of tokens of these classes, where so much is open
-- before them
abbrev pub deepest : Bool → List Open → List ℕ → ℕ
deepest after_operand opened [] = length opened
deepest after_operand opened (class ∷ classes) = max (length opened)
    (deepest (is_operand_end class) (open_after after_operand class opened) classes)

-- the greatest number that is open at one place
abbrev pub nesting : List Token → ℕ
nesting ts = deepest false [] (map (λ t. t.class) ts)
