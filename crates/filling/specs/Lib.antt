-- What the code over the gates taken has of its own.
pub mod Asking
pub mod Filling
pub mod Outputs
pub mod Places
