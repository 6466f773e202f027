-- How deep the lines of a laid-out text are that begin with a token.
mod Through
mod Depths
mod Items
mod Gaps
mod AttributeNames
pub mod LaidIndents
