-- Clause text, in the order of the rules.
pub mod Bytes
pub mod Tokens
pub mod Span
pub mod Numbers
pub mod Line
pub mod Header
pub mod Body
pub mod Tally
pub mod Buffer
pub mod Laying
pub mod Reading
pub mod Decimal
pub mod Writing
pub mod Pieces
pub mod Cases
