pub mod Written
pub mod World
pub mod Start
