-- Paths of modules, worked.
mod PathRows
