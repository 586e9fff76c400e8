-- What the search for pairs has of its own.
pub mod Pairs
pub mod Substitute
pub mod PairChains
