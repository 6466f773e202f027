pub mod Spanned
pub mod Lending
pub mod View
pub mod Copies
pub mod Keeps
