-- What the calls over a book answer.
pub mod Answers
