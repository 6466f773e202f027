use Rattle.std.proofs.Common.{rules, arith}
use Rattle.std.proofs.lemmas.Map.Text.{text_keys}
use Rattle.wgsl_files.proofs.memory.MemoryStoreStore.write.Goals as goal

pub returns-clause-ok : goal.returns-clause-ok
returns-clause-ok c = record {
  known = search rules;
  here = λ _. grind (arith, text_keys);
  others = λ _ other apart. grind (arith, text_keys);
}
