pub mod Lines
pub mod Messages
pub mod Undecoded
pub mod Faults
