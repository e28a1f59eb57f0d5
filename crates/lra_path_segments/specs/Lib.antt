-- In the order in which they are to be read.
pub mod Segments
pub mod TreeSegments
pub mod TreeSegmentViews
pub mod Labels
pub mod Tasks
-- The crates below
pub mod Crates
