pub mod Following
pub mod Weights
pub mod Views
pub mod Machine
pub mod AnyKind
pub mod Arms
pub mod Recognized
