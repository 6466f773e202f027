pub mod NewName
pub mod Renames
pub mod Targets
pub mod Edits
pub mod Changes
pub mod Captured
