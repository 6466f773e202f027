pub mod Parts
pub mod Names
