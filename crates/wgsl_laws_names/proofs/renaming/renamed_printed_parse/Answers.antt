-- The law is proved in the theory.
use Rattle.wgsl_theory_names.proofs.Lexed.Modules.{renamed_is_utf8, renamed_tokens, renamed_reads_back}
use Rattle.wgsl_laws_names.proofs.renaming.renamed_printed_parse.Goals as goal

pub returns-clause-utf8 : goal.returns-clause-utf8
returns-clause-utf8 c = renamed_is_utf8

pub returns-clause-tokens : goal.returns-clause-tokens
returns-clause-tokens c = renamed_tokens

pub returns-clause-reads_back : goal.returns-clause-reads_back
returns-clause-reads_back c = renamed_reads_back
