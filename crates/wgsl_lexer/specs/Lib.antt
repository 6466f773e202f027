pub mod InOrder
pub mod Placed
pub mod Given
pub mod OpenLists
pub mod Room
pub mod TextTokens
pub mod Endings
pub mod Left
