-- Widenings of closed polyhedra.
pub mod Saturated
pub mod Validity
pub mod Rank
pub mod Widenings
-- Limited by the tightest of the widening thresholds.
pub mod Tightest
-- What stays after a flag.
pub mod StayingRows
-- The crates below
pub mod Crates
