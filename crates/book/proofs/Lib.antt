-- Laws of the pin book.
pub mod PinSteps
