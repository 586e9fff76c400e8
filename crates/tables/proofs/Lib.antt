-- The laws of literals, clauses and tables.
pub mod Literals
pub mod Clauses
pub mod Checked
pub mod LookUps
pub mod Few
pub mod SameEntries
pub mod SameVariables
pub mod Verdicts
pub mod EndedClauses
pub mod Entries
