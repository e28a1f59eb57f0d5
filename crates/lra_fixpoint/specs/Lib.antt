pub mod Lives
pub mod Numbers
pub mod Counts
pub mod Tables
pub mod Solved
pub mod Sound
pub mod UnderInterference
-- The crates below
pub mod Crates
