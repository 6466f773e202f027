pub mod Sources
pub mod Origins
pub mod Answers
pub mod Places
pub mod Tokens
pub mod Reading
pub mod Words
