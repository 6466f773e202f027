pub mod Configs
pub mod Runs
pub mod Others
pub mod Refusals
pub mod Starts
