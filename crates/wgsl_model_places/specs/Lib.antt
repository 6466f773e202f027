-- The definitions, in the order in which they are read.
pub mod Roles
pub mod Items
pub mod Signs
pub mod Steps
pub mod Places
pub mod Edited
