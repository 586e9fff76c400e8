-- Lemmas of a round's steps put together, and of the loop.
pub mod PinSteps
pub mod RoundSteps
pub mod Whole
pub mod Outcomes
pub mod SettleSteps
