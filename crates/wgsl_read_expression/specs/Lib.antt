pub mod Growing
pub mod Rules
pub mod Taking
