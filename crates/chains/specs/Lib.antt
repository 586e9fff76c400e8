-- The chains of a row's clauses, and rows that grow clause by clause.
pub mod Ended
pub mod Key
pub mod Links
pub mod Follow
