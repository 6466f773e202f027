pub mod Options
pub mod View
pub mod Kept
pub mod Failures
pub mod Runs
pub mod Start
