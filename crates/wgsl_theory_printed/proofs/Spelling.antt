-- How words are spelled, where they end, and what texts lex along.
pub mod Split
pub mod Cut
pub mod Decimal
pub mod Characters
pub mod Fronts
pub mod Pieces
pub mod Spellings
pub mod Scalars
pub mod Numerals
pub mod Signs
pub mod WordCharacters
pub mod Along
pub mod Ends
pub mod NoPeriods
