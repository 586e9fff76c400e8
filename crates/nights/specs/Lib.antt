-- A move of the code as one of the demands.
pub mod Moves
