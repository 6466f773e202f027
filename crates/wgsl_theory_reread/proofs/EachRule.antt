-- What each rule derives is read again.
pub mod AttributeTokens
pub mod AttributeLikeness
pub mod AttributeRules
pub mod ExpressionRules
pub mod StatementParts
pub mod StatementRules
pub mod UnitParts
pub mod UnitRules
pub mod RuleTerms
