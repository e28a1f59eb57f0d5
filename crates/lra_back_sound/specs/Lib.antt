-- In the order in which they are to be read.
pub mod FailingRuns
pub mod Fitting
-- The crates below
pub mod Crates
