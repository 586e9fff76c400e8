-- Lemmas of the calls.
pub mod Asks
pub mod AskSteps
pub mod BuildSteps
pub mod Evenings
pub mod ProgramSteps
pub mod Fills
pub mod FillSteps
pub mod BadValues
pub mod Tests
