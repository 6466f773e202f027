pub mod Lists
pub mod Chains
pub mod Views
pub mod Statements
pub mod Units
