-- What the program makes of a text.
pub mod Rewriting
