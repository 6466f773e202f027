-- The form in which one token decides, and what the further symbols mean.
pub mod Tokens
pub mod Factored
pub mod Unchecked
pub mod Tables
pub mod Apart
pub mod FewerAttributes
pub mod MeaningCases
pub mod Meaning
pub mod MeaningRules
pub mod Answers
pub mod Reader
pub mod ExpressionRules
pub mod StatementRules
pub mod UnitRules
