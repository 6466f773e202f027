-- Which texts have renamed tokens.
pub mod ByClass
pub mod Shape
pub mod Spelled
pub mod SpansUnwritten
pub mod Modules
