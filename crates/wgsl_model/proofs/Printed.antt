-- Printed texts, worked.
mod Rows
