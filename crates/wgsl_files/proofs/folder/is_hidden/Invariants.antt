use Rattle.std.proofs.Common.{◌≡◌, drop}
use Rattle.wgsl_files.specs.Folders.{is_hidden}
use Rattle.wgsl_files.proofs.folder.is_hidden.Given as goal

-- no name before this place begins with `.`
abbrev pub invariant-loop-at : goal.invariant-loop-at
invariant-loop-at l = is_hidden (drop l.at l.names) ≡ is_hidden l.names
