-- In the order in which they are to be read: sets of statuses, what a source must get of which something is reported,
-- and the exit number of each status.
pub mod Statuses
pub mod SourceAnswers
pub mod Exit
-- The crates below
pub mod Crates
