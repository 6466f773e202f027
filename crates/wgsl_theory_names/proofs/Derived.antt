-- What renamed tokens derive.
pub mod Renews
pub mod Ways
pub mod ExpressionRules
pub mod AttributeNames
pub mod AttributeRules
pub mod StatementRules
pub mod UnitRules
pub mod RuleTerms
pub mod Derivations
pub mod RenamedWords
