pub mod Ends
pub mod Told
pub mod Report
pub mod Run
pub mod RunOutput
pub mod Deeper
