pub mod Flat
pub mod Retold
pub mod Meets
