-- The laws of the ways of going through a row, proved once for all that is made of them.
pub mod Bools
pub mod Runs
pub mod Rows
pub mod Members
pub mod Counts
