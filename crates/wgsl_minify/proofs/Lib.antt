pub mod Stages
mod Tables
mod Prints
mod NewModules
