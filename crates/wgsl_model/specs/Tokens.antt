-- From the text to its tokens.
pub mod ClassTable
pub mod Kind
pub mod Words
pub mod Characters
pub mod Trivia
pub mod Pattern
pub mod Numbers
pub mod Spelling
pub mod Raw
pub mod Texts
pub mod Places
pub mod Templates
pub mod TokenList
