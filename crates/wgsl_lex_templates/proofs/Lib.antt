pub mod Among
pub mod Advancing
pub mod Readings
pub mod TextLists
pub mod Hints
