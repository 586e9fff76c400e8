-- What the boundary says of its own.
pub mod Answers
pub mod Settled
