-- Lemmas of the listing.
pub mod Walks
pub mod ChainSteps
pub mod GateSteps
pub mod Sizes
pub mod Outputs
