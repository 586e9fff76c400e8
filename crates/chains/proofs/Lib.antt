-- Laws of rows that grow clause by clause, and of their chains.
pub mod Endings
pub mod Walks
pub mod Growing
