-- The written grammar and the one in which one token decides derive the same.
pub mod ListLinks
pub mod Levels
pub mod Taking
pub mod Lifted
pub mod Shifts
pub mod LevelLinks
pub mod AttributeLinks
pub mod LeftSides
pub mod StatementPlaces
pub mod StatementSteps
pub mod StatementCases
pub mod StatementLinks
pub mod BlockLinks
pub mod UnitLinks
pub mod Links
