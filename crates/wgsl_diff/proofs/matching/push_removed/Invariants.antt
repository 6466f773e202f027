use Rattle.std.proofs.Common.{◌≡◌, ◌++◌, map, take}
use Rattle.wgsl_diff.specs.Diffs.{removed}
use Rattle.wgsl_diff.specs.View.{line_view, texts_of}
use Rattle.wgsl_diff.proofs.matching.push_removed.Given as goal

abbrev pub invariant-loop-text : goal.invariant-loop-text
invariant-loop-text l = map line_view l.lines.items
    ≡ map line_view l.initial.lines.items ++ map removed (texts_of (take l.text-index l.texts))
