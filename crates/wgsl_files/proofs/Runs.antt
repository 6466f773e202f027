-- Files that do not change.
use Rattle.std.proofs.Common.{◌∙◌, ℕ, List}
use Rattle.wgsl_files.specs.Files.{Files, Same}
use Rattle.wgsl_files.specs.Rewriting.{ChangesOnly}

-- nothing changes, and then nothing
pub same_same : (a b c : Files) → Same a b → Same b c → Same a c
same_same a b c ab bc = record {
  known = bc.known ∙ ab.known;
  each = λ known path. bc.each (ab.known ∙ known) path ∙ ab.each known path;
}

-- where nothing changes, no file outside of some changes
pub same_changes : (names : List (List ℕ)) (old new : Files) → Same old new → ChangesOnly names old new
same_changes names old new same = record { known = same.known; others = λ known path apart. same.each known path }
