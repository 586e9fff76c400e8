-- What a line of the desk says.
pub mod Names
pub mod Commands
