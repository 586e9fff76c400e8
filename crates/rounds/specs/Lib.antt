-- What the rounds' code has of its own.
pub mod Rounds
