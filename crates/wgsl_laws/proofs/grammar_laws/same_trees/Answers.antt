-- The law is proved in the theory.
use Rattle.wgsl_model.specs.Grammar.Symbols.{Dialect.parsed, Dialect.recognized}
use Rattle.wgsl_theory_grammar.proofs.WrittenTree.{dialect_same_trees}
use Rattle.wgsl_laws.proofs.grammar_laws.same_trees.Goals as goal

pub returns-clause-whole : goal.returns-clause-whole
returns-clause-whole c = dialect_same_trees parsed

pub returns-clause-alone : goal.returns-clause-alone
returns-clause-alone c = dialect_same_trees recognized
