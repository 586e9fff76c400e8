-- What the calls have of their own.
pub mod Builds
pub mod Evenings
pub mod Programs
pub mod Values
