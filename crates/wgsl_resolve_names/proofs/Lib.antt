pub mod Links
pub mod Entered
pub mod Passed
