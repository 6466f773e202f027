pub mod Lefts
pub mod Room
pub mod After
pub mod Endings
pub mod InOrder
pub mod Collects
pub mod Told
pub mod Recognized
