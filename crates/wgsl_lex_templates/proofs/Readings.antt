-- What is read after a `<`, a token or a list after the other.
pub mod Names
pub mod Turns
pub mod Pushes
pub mod Held
pub mod Rests
pub mod Found
pub mod Pieces
pub mod Replaced
pub mod Enclosed
pub mod Reached
