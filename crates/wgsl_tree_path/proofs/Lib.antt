mod Names
mod Parts
mod Supers
mod Reading
pub mod Equalities
mod Joins
pub mod JoinLaws
pub mod TextLaws
