-- Lemmas of the search for patterns.
pub mod Chains
pub mod Forms
pub mod Keyed
pub mod Masks
pub mod Ones
pub mod Steps
pub mod Whole
