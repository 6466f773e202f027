-- The reader takes exactly what is derived.
pub mod Sets
pub mod Beginnings
pub mod Sound
pub mod Complete
pub mod Depth
pub mod Enough
pub mod Frame
pub mod Step
pub mod Near
pub mod Viable
pub mod Exact
