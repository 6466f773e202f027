pub mod Enclosed
pub mod AllLines
pub mod Rows
