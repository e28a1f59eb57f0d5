pub mod TreeSteps
pub mod Filtered
-- The crates below
pub mod Crates
