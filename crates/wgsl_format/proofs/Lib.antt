pub mod Told
pub mod Ends
pub mod Runs
pub mod Reports
pub mod Reprinted
pub mod Laid
pub mod Refused
pub mod Sources
