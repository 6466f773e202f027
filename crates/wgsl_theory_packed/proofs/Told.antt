pub mod Forms
pub mod Words
pub mod Expressions
pub mod Attributes
pub mod Statements
pub mod Units
pub mod OwnForms
