pub mod Equalities
pub mod Blocks
pub mod Pieces
pub mod Writes
