-- In the order in which they are to be read.
pub mod Found
pub mod Holding
pub mod Analysed
pub mod Written
pub mod Interleaved
-- The crates below
pub mod Crates
