-- The pieces of sound trees fit before what follows.
pub mod FittingWords
pub mod PointAfter
pub mod SoundExpressions
pub mod FittingSigns
pub mod FittingExpressions
pub mod WrittenWords
pub mod FittingAttributes
pub mod FittingStatements
pub mod FittingNodes
pub mod FittingUnits
