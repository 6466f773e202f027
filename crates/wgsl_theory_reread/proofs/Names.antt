-- What the words and names of a text are, and how they are written from a tree.
pub mod NamedWords
pub mod RuleNames
pub mod PlainNames
pub mod AttributeNames
pub mod TextWords
