-- What the parts of an attribute read, each as a word of its own.
use Rattle.std.specs.Prelude.{ℕ, [], ◌∷◌, ◌++◌, cond}
use Rattle.grammar.specs.Tokens.{Token}
use Rattle.grammar.specs.Grammar.{Grammar.token, Grammar.symbol}
use Rattle.grammar.specs.Notation.{◌then◌, ◌gives◌, ◌▹◌, optional}
use Rattle.grammar.specs.States.{State, Read, done, ◌>>=◌, is_at, turns, go}
use Rattle.wgsl_model.specs.Tokens.ClassTable.{SymAttr, Ident, ReservedWord}
use Rattle.wgsl_model.specs.Trees.Spanned.{Spanned}
use Rattle.wgsl_model.specs.Trees.Attributes.{Attribute, Attributes}
use Rattle.wgsl_model.specs.Grammar.Checks.{Arguments, attribute_node}
use Rattle.wgsl_model.specs.Grammar.Symbols.{Symbol.attribute, Symbol.arguments}
use Rattle.wgsl_model.specs.Grammar.Written.{keyword_classes}
use Rattle.wgsl_theory_grammar.specs.Factored.{FactoredSymbol.of}
use Rattle.wgsl_theory_grammar.specs.Tables.{tables}
use Rattle.wgsl_theory_grammar.specs.Reader.{reader}

-- arguments in parentheses, or nothing
unfoldable pub optional_arguments_at : State → Read Arguments
optional_arguments_at s = go tables reader (optional (symbol (of arguments))) s

-- `@`, a name and its arguments, which are not checked
unfoldable pub attribute_parts_at : State → Read (Token × Arguments)
attribute_parts_at s = go tables reader
    (SymAttr ▹ token (Ident ∷ ReservedWord ∷ keyword_classes) then optional (symbol (of arguments))) s

-- an attribute that is right
unfoldable pub attribute_node_at : State → Read (Spanned Attribute)
attribute_node_at s = go tables reader (symbol (of attribute) gives attribute_node) s

-- further attributes after some
unfoldable pub attributes_from : ℕ → Attributes → State → Read Attributes
attributes_from start attributes s =
    turns (λ (xs : Attributes) (x : Spanned Attribute) span. xs ++ (x ∷ []))
    (SymAttr ∷ []) attribute_node_at start attributes s

-- one more, where the next token is `@`
unfoldable pub attributes_turn : ℕ → Attributes → State → Read Attributes
attributes_turn start attributes s = cond (is_at SymAttr s)
    (attribute_node_at s >>= λ a s'. attributes_from start (attributes ++ (a ∷ [])) s') (done attributes s)
