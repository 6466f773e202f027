-- What a symbol reads is what its right side reads.
use Rattle.std.proofs.Common.{◌≡◌}
use Rattle.grammar.specs.States.{State, go}
use Rattle.grammar.proofs.States.{reads_is}
use Rattle.wgsl_theory_grammar.specs.Factored.{FactoredSymbol, body}
use Rattle.wgsl_theory_grammar.specs.Tables.{rank_limit, tables}
use Rattle.wgsl_theory_grammar.specs.Reader.{reader}
use Rattle.wgsl_theory_grammar.proofs.Passes.{passes}

pub step : (n : FactoredSymbol) (s : State) → reader n s ≡ go tables reader (body n) s
unfolding reader
step n s = reads_is tables body rank_limit passes n s
