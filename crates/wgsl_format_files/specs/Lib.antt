pub mod Configs
pub mod Events
pub mod Files
pub mod Inputs
pub mod Runs
pub mod Tidy
pub mod Layouts
pub mod Start
