-- What the gates say, that they have no ring, and what filling in makes of them.
pub mod Values
pub mod Patterns
pub mod Order
pub mod Depends
pub mod Filled
pub mod Levels
pub mod Written
pub mod Taken
pub mod Shared
pub mod Only
pub mod Asked
pub mod Whole
