pub mod Turns
pub mod Declarations
pub mod Front
pub mod Results
pub mod Hints
