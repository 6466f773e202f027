-- Which fault is named, and that there is one.
pub mod PlainFaults
pub mod Avoids
pub mod WrittenEnds
pub mod FaultEnds
pub mod Answers
pub mod Faultless
pub mod UncheckedAnswers
pub mod NamedOnce
