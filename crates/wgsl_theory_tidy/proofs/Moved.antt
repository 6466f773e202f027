-- What tokens derive does not depend on where they are.
pub mod Alike
pub mod Ways
pub mod ExpressionRules
pub mod AttributeRules
pub mod StatementRules
pub mod UnitRules
pub mod RuleTerms
pub mod Moved
