-- The definitions, in the order in which they are read.
pub mod Scopes
pub mod Names
pub mod Renamed
pub mod RenamedTokens
pub mod Renaming
