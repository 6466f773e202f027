pub mod Table
pub mod Steps
pub mod Printed
pub mod Numbers
pub mod Lines
pub mod Escaped
