pub mod Files
pub mod Folders
pub mod Memory
pub mod Reading
pub mod Rewriting
pub mod Statuses
