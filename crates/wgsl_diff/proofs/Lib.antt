pub mod DiffLines
pub mod Pending
pub mod Grouping
pub mod Nearest
pub mod Scripts
pub mod Building
pub mod Shown
pub mod Texts
