-- What hashing a name writes.
use Rattle.std.specs.Prelude.{ℕ, List}
use Rattle.wgsl_tree_expression.specs.declared.ident.Ident.{Ident}
use Rattle.wgsl_tree_expression.specs.contracts.ident.IdentHash.TheImpl as ident_hash

abbrev pub hashed_ident : Ident → List (List ℕ)
hashed_ident = (ident_hash.ghosts).hash_input
