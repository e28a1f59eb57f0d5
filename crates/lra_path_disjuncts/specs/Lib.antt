-- In the order in which they are to be read.
pub mod StepMoves
pub mod Disjuncts
pub mod Tables
pub mod TableDisjuncts
pub mod Conditions
pub mod SegmentMoves
pub mod PassedLabels
-- The crates below
pub mod Crates
