mod NumberSigns
mod Beside
mod WrittenBeside
mod Numbers
mod TokenShapes
mod SymbolEnds
mod LongerSpellings
pub mod TokenEnds
pub mod Reading
mod Joined
pub mod Kept
mod TokenJoins
pub mod Least
mod Hexadecimal
mod Spaced
mod Needless
mod NeedlessShape
pub mod Minified
