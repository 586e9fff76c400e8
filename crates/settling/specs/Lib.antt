-- What the theorems about the rounds speak of.
pub mod Sets
