-- The laws of clause text: what is written is read back. And its definitions step by step, for the code.
pub mod Spans
pub mod Digits
pub mod Words
pub mod HeaderLine
pub mod Lines
pub mod Back
pub mod TokenSteps
pub mod NumeralSteps
pub mod HeaderSteps
pub mod BodySteps
pub mod Room
pub mod RowSteps
pub mod LaySteps
pub mod DecimalSteps
pub mod WriteSteps
