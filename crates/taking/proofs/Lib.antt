-- Lemmas of the taking of gates.
pub mod PlaceSteps
pub mod Placed
pub mod Behind
pub mod LeftOut
pub mod Room
pub mod TakeSteps
pub mod Offers
pub mod Walk
pub mod Turn
pub mod Rest
pub mod FromRounds
