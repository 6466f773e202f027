pub mod Lending
pub mod Parts
pub mod StatementNodes
pub mod PlainAttributes
pub mod NamedNodes
pub mod UnitNodes
