-- Lemmas of the pairs and of what each variable stands for.
pub mod StandSteps
pub mod PairSteps
pub mod SubstituteSteps
pub mod ChainSteps
