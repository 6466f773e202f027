-- The definitions, in the order in which they are read.
pub mod Pieces
pub mod Roles
pub mod Joints
pub mod Open
pub mod Layout
pub mod Shown
pub mod Ahead
pub mod LaidOut
pub mod Formatted
pub mod NonBlank
pub mod Lines
pub mod Brackets
pub mod Kept
pub mod Syntax
pub mod Tidied
