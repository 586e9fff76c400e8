-- Laws of the rules that the code cites.
pub mod Groups
pub mod SideLaws
