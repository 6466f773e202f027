-- The kind of a `var`, by its template.
use Rattle.grammar.specs.States.{State, Read, go}
use Rattle.wgsl_model.specs.Trees.Statements.{DeclarationKind}
use Rattle.wgsl_model.specs.Grammar.StatementParts.{var_kind}
use Rattle.wgsl_theory_grammar.specs.Factored.{lifted}
use Rattle.wgsl_theory_grammar.specs.Tables.{tables}
use Rattle.wgsl_theory_grammar.specs.Reader.{reader}

-- `var` and its template
unfoldable pub var_kind_at : State → Read DeclarationKind
var_kind_at s = go tables reader (lifted var_kind) s
