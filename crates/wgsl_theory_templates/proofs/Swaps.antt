-- Template lists and what is between parentheses in place of others, and what refutes a list.
pub mod Swapped
pub mod SameRest
pub mod SwapRules
pub mod Exchanges
pub mod InsideNested
pub mod ReadAlike
pub mod Attempts
pub mod RefutesAround
