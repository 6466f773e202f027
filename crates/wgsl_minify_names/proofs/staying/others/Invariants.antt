use Rattle.std.proofs.Common.{◌≡◌, ◌++◌, map, filter, not, drop}
use Rattle.wgsl_minify_names.specs.InScope.{is_in, names_of}
use Rattle.wgsl_minify_names.specs.View.{occurrence_view, texts}
use Rattle.wgsl_minify_names.proofs.staying.others.Given as goal

abbrev pub invariant-loop-occurrence : goal.invariant-loop-occurrence
invariant-loop-occurrence l = texts l.found.items
    ++ filter (λ x. not (is_in x (texts l.set.keys))) (names_of (map occurrence_view (drop l.occurrence-index l.names)))
    ≡ filter (λ x. not (is_in x (texts l.set.keys))) (names_of (map occurrence_view l.names))
