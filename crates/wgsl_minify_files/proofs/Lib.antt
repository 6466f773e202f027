pub mod Asked
pub mod Failures
pub mod Names
pub mod Runs
