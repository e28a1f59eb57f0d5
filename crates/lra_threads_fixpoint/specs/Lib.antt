-- In the order in which they are to be read.
pub mod Intervals
pub mod Interference
pub mod Rounds
pub mod Flags
pub mod Found
-- The crates below
pub mod Crates
