-- Worked examples.
mod SegmentExamples
-- Runs of trees go along segments.
pub mod Came
-- Pieces of runs go along paths.
pub mod FollowedRuns
pub mod StartSteps
pub mod CoverSteps
pub mod LawsOfPaths
pub mod ManyPaths
pub mod OwnDenials
-- Paths from one source, from tables of moves.
pub mod DepartureSteps
pub mod SourceSteps
-- The crates below
pub mod Crates
