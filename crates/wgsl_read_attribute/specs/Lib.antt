pub mod Known
pub mod Counted
pub mod Makes
pub mod Settles
pub mod Rules
pub mod After
pub mod Variants
