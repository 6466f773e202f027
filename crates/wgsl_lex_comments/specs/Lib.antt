pub mod Comments
