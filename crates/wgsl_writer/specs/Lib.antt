pub mod Joined
pub mod Depth
pub mod LineEnds
pub mod Writing
