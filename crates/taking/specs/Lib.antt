-- What the taking of gates has of its own.
pub mod Placing
pub mod Fresh
pub mod Settled
pub mod Anchors
pub mod Offered
