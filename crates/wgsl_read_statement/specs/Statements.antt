-- What the parts of statements read, each as a word of its own, which no computation opens.
use Rattle.std.specs.Prelude.{ℕ, List, cond}
use Rattle.grammar.specs.States.{State, Read, Read.done, ◌>>=◌, is_at, is_any, span_from}
use Rattle.wgsl_model.specs.Tokens.ClassTable.{KwBreak}
use Rattle.wgsl_model.specs.Trees.Attributes.{Attributes}
use Rattle.wgsl_model.specs.Trees.Statements.{StatementNode, UnattributedStatement, statement}
use Rattle.wgsl_model.specs.Grammar.StatementParts.{placed_statement}
use Rattle.wgsl_theory_grammar.specs.Factored.{FactoredSymbol.further, Further.braced_part, Further.ended_part}
use Rattle.wgsl_theory_grammar.specs.Tables.{firsts}
use Rattle.wgsl_theory_grammar.specs.Reader.{reader}
use Rattle.wgsl_read_attribute.specs.After.{after_attributes}
use Rattle.wgsl_read_part.specs.Plain.{break_part_at}

-- the classes that begin a statement that ends with a block, after its attributes
abbrev pub begin_braced_part : List ℕ
begin_braced_part = firsts (further braced_part)

-- a statement from its first word on, without its attributes
unfoldable pub statement_part_at : State → Read UnattributedStatement
statement_part_at s = cond (is_at KwBreak s) (break_part_at s)
    (cond (is_any begin_braced_part s) (reader (further braced_part) s) (reader (further ended_part) s))

-- a statement after its attributes, which begin at a place
unfoldable pub statement_after_at : Attributes → ℕ → State → Read StatementNode
statement_after_at a start s = after_attributes statement a statement_part_at s
    >>= λ x s'. done (placed_statement x (span_from start s')) s'
