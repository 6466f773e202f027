-- What is left of a text has one list of tokens, which end in one way.
pub mod LeftTokens
