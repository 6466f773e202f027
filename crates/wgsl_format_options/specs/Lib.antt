pub mod Command
pub mod Chosen
pub mod Options
pub mod View
