use Rattle.std.proofs.Common.{true, ℕ, List, All, chars, take}
use Rattle.std.specs.Borrow.{Bor}
use Rattle.wgsl_minify_files.specs.Kept.{HasName}
use Rattle.wgsl_minify_files.proofs.kept.check_kept.Given as goal

-- the text has the names so far
abbrev pub invariant-keep : goal.invariant-keep
invariant-keep l = All (λ (text : Bor (List ℕ)). HasName true (chars l.source) text.now) (take l.name-index l.keep)
