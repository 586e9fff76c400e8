-- What a gate in code has of its own.
pub mod Counting
pub mod Inputs
pub mod KindRows
pub mod Sites
pub mod Outputs
pub mod TakenGates
