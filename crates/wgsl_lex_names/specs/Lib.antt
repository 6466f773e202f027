pub mod View
pub mod Readers
