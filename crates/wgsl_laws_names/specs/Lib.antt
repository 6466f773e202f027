-- Rows worked out by hand.
pub mod RowParts
pub mod ScopeRows
pub mod AlternativeRows
pub mod UseRows
