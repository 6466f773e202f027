-- How the tokens of a text are in template lists and brackets.
pub mod Shapes
pub mod RoleClasses
pub mod PassedOver
pub mod NoStops
pub mod LexedAlong
pub mod Runs
pub mod RawClasses
pub mod ReachedRuns
pub mod SourceShape
