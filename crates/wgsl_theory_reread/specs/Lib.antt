pub mod CanonicalExpressions
pub mod CanonicalAttributes
pub mod CanonicalStatements
pub mod CanonicalUnits
pub mod CanonicalRows
