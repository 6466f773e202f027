-- The theory of the grammar, in the order in which it is proved.
pub mod Passes
pub mod Guards
pub mod Outcomes
pub mod WithoutChecks
pub mod UncheckedTested
pub mod Forms
pub mod WrittenTree
pub mod FewerAttributes
pub mod Faults
pub mod Tokens
pub mod Reader
pub mod ExpressionEquations
pub mod StatementEquations
pub mod UnitEquations
