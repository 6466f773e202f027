pub mod Tokens
pub mod Trees
pub mod Faults
pub mod Printed
pub mod Filled
