pub mod Chains
pub mod Ended
pub mod Statements
pub mod Units
