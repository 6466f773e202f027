pub mod Written
pub mod Commented
pub mod Refused
pub mod Deeper
pub mod Shown
pub mod Valid
pub mod PackedKinds
pub mod PrintedForms
