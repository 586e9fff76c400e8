-- The ways of going through a row.
pub mod Ways
