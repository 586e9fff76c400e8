-- Lemmas of residue, levels, filling in and asking.
pub mod LevelSteps
pub mod PatternParts
pub mod AskSteps
pub mod FillSteps
pub mod Filled
pub mod AskPlaces
pub mod Spoken
