pub mod JudgedLines
pub mod WalkSteps
pub mod WalkChanges
pub mod TrackSteps
pub mod ShowSteps
-- The crates below
pub mod Crates
