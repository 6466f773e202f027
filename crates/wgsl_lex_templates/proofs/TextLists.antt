-- Where the lists of a text are, found one `<` after the other from the right.
pub mod Begun
pub mod Fronts
pub mod Scans
pub mod Ends
pub mod Searched
pub mod Listed
pub mod Known
pub mod Stepped
