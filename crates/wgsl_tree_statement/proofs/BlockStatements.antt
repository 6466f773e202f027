-- A block as a statement: what is said of the one is said of the other.
use Rattle.std.proofs.Common.{◌≡◌, refl}
use Rattle.wgsl_model.specs.Trees.Statements.{CompoundStatement, compound_statement, block_statement}
use Rattle.wgsl_model.specs.Printed.Statements.{unended, print_compound}
use Rattle.wgsl_model.specs.Trees.EmptyItems.{full_statement, full_compound}
use Rattle.wgsl_tree_code.specs.Same.{same}
use Rattle.wgsl_tree_code.specs.StatementNodes.{statement_code, compound_code}

pub block_unended : (b : CompoundStatement) → unended (block_statement b) ≡ print_compound b
block_unended (compound_statement attributes ss) = refl

pub block_full : (b : CompoundStatement) → full_statement (block_statement b) ≡ block_statement (full_compound b)
block_full (compound_statement attributes ss) = refl

pub blocks_same : (a b : CompoundStatement) → same (statement_code (block_statement a))
    (statement_code (block_statement b)) ≡ same (compound_code a) (compound_code b)
blocks_same (compound_statement attributes ss) (compound_statement others ts) = refl
