pub mod Reading
pub mod Faults
pub mod Binding
pub mod States
pub mod Lists
pub mod Words
mod Samples
