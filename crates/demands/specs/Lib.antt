-- What was promised to the desk and to the inspector, as statements about the definitions alone.
pub mod Evening
pub mod Forced
pub mod Demands
pub mod Night
pub mod Answers
pub mod Plans
pub mod Texts
