use Rattle.std.proofs.Common.{◌≡◌, ◌<◌, ◌≤◌, All, take}
use Rattle.std.specs.List.{AllPairs}
use Rattle.std.specs.Map.{keys_of}
use Rattle.wgsl_model_minify.specs.Chosen.{AreLetters}
use Rattle.wgsl_minify_names.specs.Short.{number_of, IsFresh, NoneFree}
use Rattle.wgsl_minify_names.specs.View.{table_view, texts}
use Rattle.wgsl_minify_names.proofs.table.with_new_names.Given as goal

abbrev pub invariant-loop-name : goal.invariant-loop-name
invariant-loop-name l = record {
  names : keys_of (table_view l.table.items) ≡ texts (take l.name-index l.names);
  fresh : All (λ pair. IsFresh (texts l.taken.keys) pair.1) (table_view l.table.items);
  letters : All (λ pair. AreLetters pair.1) (table_view l.table.items);
  rising : AllPairs (λ p q. number_of p.1 < number_of q.1) (table_view l.table.items);
  used : NoneFree (texts l.taken.keys) (table_view l.table.items) l.last;
  low : All (λ pair. number_of pair.1 ≤ l.last) (table_view l.table.items);
}
