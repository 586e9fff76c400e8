-- What the search for patterns has of its own.
pub mod Chain
pub mod Index
pub mod Seen
