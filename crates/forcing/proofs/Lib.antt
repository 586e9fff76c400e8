-- Lemmas of forced literals.
pub mod ForceSteps
pub mod ForcePasses
pub mod Empties
