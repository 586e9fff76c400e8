-- The book of a run.
pub mod Books
