-- The definitions, in the order in which they are read.
pub mod Occurrences
pub mod NewNames
pub mod Renamed
pub mod Chosen
