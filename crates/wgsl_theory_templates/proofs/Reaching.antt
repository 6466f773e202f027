-- Whether a list that begins at a `<` would come to a token that begins with `>`.
pub mod Roles
pub mod Reach
pub mod Moves
pub mod Passing
pub mod Closes
pub mod After
pub mod Clear
pub mod ClearRules
