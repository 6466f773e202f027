-- What is read by the parts of rules that are no symbols of the grammar.
use Rattle.std.specs.Prelude.{ℕ, List, [], ◌∷◌, ◌++◌, Option, cond}
use Rattle.grammar.specs.Grammar.{Grammar.symbol}
use Rattle.grammar.specs.Notation.{◌then◌, ◌gives◌, ◌▹◌, ◌◃◌, optional}
use Rattle.grammar.specs.States.{State, Read, Read.done, ◌>>=◌, is_any, span_from, go}
use Rattle.wgsl_model.specs.Tokens.ClassTable.{SymAttr, SymArrow, SymSemicolon, KwAlias, KwConst, KwConstAssert, KwDiagnostic, KwEnable, KwFn, KwOverride, KwRequires, KwStruct, KwVar}
use Rattle.wgsl_model.specs.Trees.Spanned.{Spanned, spanned}
use Rattle.wgsl_model.specs.Trees.Expressions.{TypeExpression}
use Rattle.wgsl_model.specs.Trees.Attributes.{Attributes}
use Rattle.wgsl_model.specs.Trees.Attributed.{with_attributes}
use Rattle.wgsl_model.specs.Trees.Units.{GlobalDeclaration, UnattributedDeclaration}
use Rattle.wgsl_model.specs.Grammar.Symbols.{Symbol.type_specifier}
use Rattle.wgsl_theory_grammar.specs.Factored.{FactoredSymbol.of, FactoredSymbol.further, Further.attribute_list, Further.assert_part, Further.attributed_part, Further.led_part, Further.declaration_list}
use Rattle.wgsl_theory_grammar.specs.Tables.{tables}
use Rattle.wgsl_theory_grammar.specs.Reader.{reader}
use Rattle.wgsl_read_attribute.specs.After.{after_attributes}

-- "->" A* TypeSpecifier, or nothing
unfoldable pub return_part_at : State → Read (Option (Attributes × TypeExpression))
return_part_at s = go tables reader
    (optional (SymArrow ▹ symbol (further attribute_list) then symbol (of type_specifier))) s

-- "const_assert" Expression ";", without its attributes
unfoldable pub assert_declaration_at : State → Read UnattributedDeclaration
assert_declaration_at s = go tables reader
    (symbol (further assert_part) ◃ SymSemicolon gives UnattributedDeclaration.const_assert) s

-- the tokens that begin a function, an `override` or a `var` after attributes
abbrev pub begin_attributed_part : List ℕ
begin_attributed_part = KwFn ∷ KwOverride ∷ KwVar ∷ []

-- a declaration from its first word on, without its attributes
unfoldable pub declaration_part_at : State → Read UnattributedDeclaration
declaration_part_at s = cond (is_any begin_attributed_part s) (reader (further attributed_part) s)
    (reader (further led_part) s)

-- a declaration after its attributes, which begin at a place
unfoldable pub declaration_after_at : Attributes → ℕ → State → Read (Spanned GlobalDeclaration)
declaration_after_at a start s = after_attributes with_attributes a declaration_part_at s
    >>= λ d s'. done (spanned d (span_from start s')) s'

-- further declarations after some
unfoldable pub further_declarations_at : List (Spanned GlobalDeclaration) → State
    → Read (List (Spanned GlobalDeclaration))
further_declarations_at declarations s = reader (further declaration_list) s
    >>= λ more s'. done (declarations ++ more) s'

-- the tokens that begin a directive after attributes
abbrev pub begin_directive_part : List ℕ
begin_directive_part = KwDiagnostic ∷ KwEnable ∷ KwRequires ∷ []

-- the tokens that begin attributes, and a directive or a declaration after them
abbrev pub begin_attributed : List ℕ
begin_attributed = SymAttr ∷ KwDiagnostic ∷ KwEnable ∷ KwRequires ∷ KwFn ∷ KwOverride ∷ KwVar
    ∷ KwAlias ∷ KwConst ∷ KwConstAssert ∷ KwStruct ∷ []
