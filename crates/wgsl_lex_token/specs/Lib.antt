pub mod TokenTable
pub mod Groups
pub mod View
pub mod Placed
