pub mod Frames
pub mod Heads
pub mod Fronts
pub mod Messages
pub mod Replies
pub mod Phases
pub mod Reading
pub mod Dispatch
