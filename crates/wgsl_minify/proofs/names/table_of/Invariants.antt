use Rattle.std.proofs.Common.{◌≡◌, ◌++◌, length, bytes_eq}
use Rattle.std.specs.List.{IsDistinct}
use Rattle.std.specs.Map.{keys_of}
use Rattle.std.specs.Vec.Iter.{into_iter_items, into_iter_len}
use Rattle.wgsl_minify_names.specs.View.{table_view}
use Rattle.wgsl_tree_renamed.specs.NewNames.{pairs}
use Rattle.wgsl_minify.proofs.names.table_of.Given as goal

-- what was inserted and what is left are all
abbrev pub invariant-pairs : goal.invariant-pairs
invariant-pairs l = record {
  added : pairs l.names ++ table_view (into_iter_items l.name-iterator)
      ≡ table_view (into_iter_items l.initial.name-iterator);
  once : IsDistinct bytes_eq (keys_of (pairs l.names ++ table_view (into_iter_items l.name-iterator)));
  left : into_iter_len l.name-iterator ≡ length (into_iter_items l.name-iterator);
}
