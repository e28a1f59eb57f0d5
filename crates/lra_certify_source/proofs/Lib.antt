-- What is taken of values and verdicts, and what a report shows of it.
pub mod TakenSteps
pub mod Listing
-- Rows that are inductive along paths.
pub mod ClosedPaths
-- What is written, and what is refused.
pub mod Written
pub mod OneRefusal
pub mod Answered
-- The crates below
pub mod Crates
