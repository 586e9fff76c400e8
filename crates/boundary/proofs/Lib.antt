-- Laws of the boundary.
pub mod Steps
pub mod SettleSteps
