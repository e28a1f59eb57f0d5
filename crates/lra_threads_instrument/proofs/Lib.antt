pub mod Sums
pub mod PartViews
-- A tree that is instrumented along a list of open places.
pub mod OpenFrames
-- Worked examples.
mod InstrumentedExamples
pub mod InstrumentedTrees
-- The crates below
pub mod Crates
