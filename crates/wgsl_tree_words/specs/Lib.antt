pub mod ViewNodes
pub mod View
