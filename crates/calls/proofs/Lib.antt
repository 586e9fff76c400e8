-- Laws of what every call begins with.
pub mod Openings
