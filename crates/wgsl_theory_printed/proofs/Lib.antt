pub mod Spelling
pub mod TreePieces
pub mod Fits
pub mod Sound
pub mod UnitOrFault
pub mod PlainWords
pub mod RoundTrip
