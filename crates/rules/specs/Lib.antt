-- The rules from the rounds to the calls, in the order of docs/RULES.md, whose sentences stand above their definitions.
pub mod Forced
pub mod Clean
pub mod Pairs
pub mod Rounds
pub mod Kinds
pub mod Patterns
pub mod Taking
pub mod Circuit
pub mod Fill
pub mod Ask
pub mod Listing
pub mod Pins
pub mod Calls
pub mod Program
pub mod Evenings
