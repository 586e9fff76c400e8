-- Tables of clauses, in the order of the rules.
pub mod Sizes
pub mod Numbers
pub mod Literal
pub mod Clause
pub mod Check
pub mod LookUp
