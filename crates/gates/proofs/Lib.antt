-- Lemmas of gates that stand in a row.
pub mod SiteLaws
pub mod OutputLaws
pub mod Counts
pub mod KindTable
pub mod SiteGates
pub mod InputSteps
