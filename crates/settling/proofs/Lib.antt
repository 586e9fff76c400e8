-- What settling keeps, step by step of a round, and what the rounds leave.
pub mod Inside
pub mod Forced
pub mod Least
pub mod Clean
pub mod Proper
pub mod Links
pub mod Roots
pub mod Round
pub mod Models
pub mod Bound
