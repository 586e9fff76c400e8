-- Laws of a line's words.
pub mod LineWords
