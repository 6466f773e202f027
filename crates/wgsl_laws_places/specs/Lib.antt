-- Rows worked out by hand.
pub mod RowTokens
pub mod PlaceRows
