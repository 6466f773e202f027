use Rattle.std.proofs.Common.{refl}
use Rattle.wgsl_lex_scanner.specs.WordTable.{moved}
use Rattle.wgsl_lex_scanner.proofs.word_table.moved.Goals as goal

pub returns : goal.returns
unfolding moved
returns c = refl
