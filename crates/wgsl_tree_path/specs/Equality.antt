-- What `==` of origins and of paths returns, and what their hashes are made of.
use Rattle.std.specs.Prelude.{ℕ, Bool, List}
use Rattle.wgsl_tree_path.specs.declared.path.PathOrigin.{PathOrigin}
use Rattle.wgsl_tree_path.specs.declared.path.ModulePath.{ModulePath}
use Rattle.wgsl_tree_path.specs.contracts.path.PathOriginPartialEq.TheImpl as origin
use Rattle.wgsl_tree_path.specs.contracts.path.PathOriginHash.TheImpl as origin_hash
use Rattle.wgsl_tree_path.specs.contracts.path.ModulePathPartialEq.TheImpl as path
use Rattle.wgsl_tree_path.specs.contracts.path.ModulePathHash.TheImpl as path_hash

abbrev pub equal_origins : PathOrigin → PathOrigin → Bool
equal_origins = (origin.ghosts).eq

abbrev pub equal_paths : ModulePath → ModulePath → Bool
equal_paths = (path.ghosts).eq

-- the writes that hashing makes
abbrev pub hashed_origin : PathOrigin → List (List ℕ)
hashed_origin = (origin_hash.ghosts).hash_input

abbrev pub hashed_path : ModulePath → List (List ℕ)
hashed_path = (path_hash.ghosts).hash_input
