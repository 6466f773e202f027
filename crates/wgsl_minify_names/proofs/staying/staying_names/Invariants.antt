use Rattle.std.proofs.Common.{◌≡◌, ◌++◌, map, drop}
use Rattle.wgsl_minify_names.specs.InScope.{no_scopes, scopes_view, staying}
use Rattle.wgsl_minify_names.specs.View.{occurrence_view, texts}
use Rattle.wgsl_minify_names.proofs.staying.staying_names.Given as goal

abbrev pub invariant-loop-occurrence : goal.invariant-loop-occurrence
invariant-loop-occurrence l = texts l.found.items
    ++ staying l.locals (scopes_view l.scopes) (map occurrence_view (drop l.occurrence-index l.names))
    ≡ staying l.locals no_scopes (map occurrence_view l.names)
