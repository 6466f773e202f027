-- How the kinds that are written from a tree differ from those that were read.
pub mod Edits
pub mod EditWays
pub mod EditSymbols
pub mod EditRules
pub mod EditAttributeRules
pub mod EditStatementParts
pub mod EditStatementRules
pub mod EditUnitRules
pub mod RuleTerms
pub mod DerivedEdits
pub mod Nested
pub mod WrittenShape
