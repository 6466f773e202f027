pub mod Texts
pub mod Members
