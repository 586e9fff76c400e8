-- What the code of the listing has of its own.
pub mod Fields
pub mod Chains
