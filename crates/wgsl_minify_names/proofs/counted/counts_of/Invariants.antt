use Rattle.std.proofs.Common.{◌≡◌, ℕ, List, take}
use Rattle.std.specs.List.{AllPairs, IsDistinct}
use Rattle.indexmap.specs.IndexMap.{keys}
use Rattle.wgsl_minify_names.specs.Counts.{count_in, found_in, same_text, IsFirstBefore}
use Rattle.wgsl_minify_names.specs.View.{texts}
use Rattle.wgsl_minify_names.proofs.counted.counts_of.Given as goal

abbrev pub invariant-loop-name : goal.invariant-loop-name
invariant-loop-name l = record {
  counts : (x : List ℕ) → found_in l.counts.entries x ≡ count_in (texts (take l.name-index l.names)) x;
  once : IsDistinct same_text (keys l.counts);
  placed : AllPairs (IsFirstBefore (texts (take l.name-index l.names))) (texts (keys l.counts));
}
