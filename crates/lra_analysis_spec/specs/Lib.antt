-- How an analysis sees expressions.
pub mod Linear
pub mod Linearization
-- The iteration.
pub mod Plan
pub mod Operations
pub mod Moves
pub mod Live
pub mod LiveLimit
pub mod MovesOf
pub mod GuardThresholds
pub mod Thresholds
pub mod Pass
-- Among others, and alone.
pub mod UnderInterference
pub mod Analysis
pub mod Instrumented
-- What can stop a run by a number.
pub mod Judging
pub mod Fits
-- Which accesses of arrays can stray.
pub mod Accesses
-- The crates below
pub mod Crates
