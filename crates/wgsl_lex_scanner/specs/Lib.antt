pub mod Digits
pub mod ScannedNumbers
pub mod Scanning
pub mod View
pub mod Parts
pub mod WordTable
pub mod Trivia
