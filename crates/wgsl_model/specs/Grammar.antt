-- From the tokens to the trees: what is checked, and the rules.
pub mod TokenValues
pub mod Checks
pub mod Symbols
pub mod ExpressionParts
pub mod StatementParts
pub mod UnitParts
pub mod Written
pub mod Small
