-- In the order in which they are to be read.
pub mod Operations
pub mod Preconditions
pub mod Rounds
pub mod BackwardAnalysis
pub mod BackwardCalls
pub mod Settled
-- The crates below
pub mod Crates
