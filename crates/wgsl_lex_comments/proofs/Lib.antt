pub mod Commented
pub mod CommentSteps
