pub mod VarKinds
pub mod Initializers
-- What the parts of rules that have functions of their own read.
pub mod Given
pub mod LeftSides
pub mod SimpleStatements
pub mod Values
