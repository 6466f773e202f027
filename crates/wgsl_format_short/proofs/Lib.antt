pub mod Marks
pub mod Refused
pub mod Written
pub mod Results
pub mod Needless
mod Hexadecimal
