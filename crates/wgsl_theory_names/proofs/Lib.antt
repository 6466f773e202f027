pub mod RenamedScopes
pub mod RenamedNames
pub mod Unknown
pub mod Kept
pub mod Undone
pub mod Derived
pub mod Lexed
