-- Which tree is asked for, its packed form and its JSON.
use Rattle.std.specs.Prelude.{◌≡◌, ◌==◌, ℕ, if◌then◌else◌, List, [], Result, chars, codes}
use Rattle.std.specs.declared.alloc.Global.{Global}
use Rattle.std.specs.declared.vec.Vec.{Vec}
use Rattle.wgsl_model.specs.Grammar.Symbols.{Symbol, Value, Symbol.unit, Symbol.global_directive, Symbol.global_declaration, Symbol.statement, Symbol.expression}
use Rattle.wgsl_model.specs.SourceTrees.{IsTreeOf}
use Rattle.wgsl_model.specs.Trees.Expressions.{ExpressionNode, expression_node}
use Rattle.wgsl_model.specs.Trees.Statements.{StatementNode, statement_node}
use Rattle.wgsl_model_packed.specs.Printing.{Notation, PrintsBy, json}
use Rattle.wgsl_model_packed.specs.Expressions.{packed_expression}
use Rattle.wgsl_model_packed.specs.Statements.{packed_statement}
use Rattle.wgsl_model_packed.specs.Units.{packed_unit, packed_directive, packed_global_declaration}
use Rattle.wgsl_error.specs.declared.Error.{Error}
use Rattle.wgsl_parser.specs.Sources.{IsRead}

-- a symbol, and the packed form of what it derives
pub record Tree : Type 0 where
  pub symbol : Symbol
  pub packed : Value symbol → List ℕ

-- the packed form of a statement or an expression, without its span: that of all tokens
abbrev pub bare_packed_statement : StatementNode → List ℕ
bare_packed_statement (statement_node s place) = packed_statement s

abbrev pub bare_packed_expression : ExpressionNode → List ℕ
bare_packed_expression (expression_node e place) = packed_expression e

abbrev pub module_tree : Tree
module_tree = record { symbol = unit; packed = packed_unit }

abbrev pub directive_tree : Tree
directive_tree = record {
  symbol = global_directive;
  packed = packed_directive;
}

abbrev pub declaration_tree : Tree
declaration_tree = record {
  symbol = global_declaration;
  packed = λ declaration. packed_global_declaration declaration.node;
}

abbrev pub statement_tree : Tree
statement_tree = record {
  symbol = statement;
  packed = bare_packed_statement;
}

abbrev pub expression_tree : Tree
expression_tree = record {
  symbol = expression;
  packed = bare_packed_expression;
}

-- the tree that has a number
abbrev pub tree_of : ℕ → Tree
tree_of n = if n == 0 then module_tree else if n == 1 then directive_tree else if n == 2
    then declaration_tree else if n == 3 then statement_tree else expression_tree

-- a text that the rules print of a packed form in a notation, and no other
abbrev pub IsOnlyPrint : Notation → List ℕ → List ℕ → Type 0
IsOnlyPrint notation form text = PrintsBy notation 0 (codes "$") form text []
    × ((other : List ℕ) → PrintsBy notation 0 (codes "$") form other [] → text ≡ other)

-- the source derives a tree, and this is its packed form
abbrev pub IsPackedOf : Tree → List ℕ → List ℕ → Type 0
IsPackedOf t source form = (v : Value t.symbol) × IsTreeOf t.symbol source v × (form ≡ t.packed v)

-- the source derives a tree, and this is the JSON of its packed form
abbrev pub IsJsonIn : Tree → List ℕ → List ℕ → Type 0
IsJsonIn t source text = (form : List ℕ) × IsPackedOf t source form × IsOnlyPrint json form text

-- what is returned of a source where its tree is packed: Ok only with the form of the tree that it
-- derives; else that an allocation failed, or the fault that is named; either is in the text or
-- ends one byte past it
abbrev pub IsPackedTree : Tree → List ℕ → Result (Vec ℕ Global) Error → Type 0
IsPackedTree t source result = IsRead t.symbol (λ bytes. IsPackedOf t (chars source) bytes.items) source result

-- the same where its JSON is written
abbrev pub IsReadTree : Tree → List ℕ → Result (Vec ℕ Global) Error → Type 0
IsReadTree t source result = IsRead t.symbol (λ bytes. IsJsonIn t (chars source) bytes.items) source result
