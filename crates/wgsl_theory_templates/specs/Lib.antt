pub mod Rest
pub mod Attempts
pub mod Exchanged
