-- The law is proved in the theory.
use Rattle.wgsl_theory_grammar.proofs.Faults.NamedOnce.{named_once, named_excludes, unchecked_once, unchecked_excludes, named_alone_excludes}
use Rattle.wgsl_laws.proofs.grammar_laws.one_name.Goals as goal

pub returns-clause-once : goal.returns-clause-once
returns-clause-once c = named_once

pub returns-clause-no_tree : goal.returns-clause-no_tree
returns-clause-no_tree c = named_excludes

pub returns-clause-unchecked_once : goal.returns-clause-unchecked_once
returns-clause-unchecked_once c = unchecked_once

pub returns-clause-unchecked_no_sentence : goal.returns-clause-unchecked_no_sentence
returns-clause-unchecked_no_sentence c = unchecked_excludes

pub returns-clause-alone_no_tree : goal.returns-clause-alone_no_tree
returns-clause-alone_no_tree c = named_alone_excludes
