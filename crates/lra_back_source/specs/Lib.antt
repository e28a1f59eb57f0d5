-- In the order in which they are to be read: what is gone back over, what a source must get that is gone back over, and
-- what stands for errors.
pub mod Forward
pub mod BackReports
pub mod Refusals
-- The crates below
pub mod Crates
