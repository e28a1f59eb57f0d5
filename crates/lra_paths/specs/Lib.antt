-- In the order in which they are to be read.
pub mod Paths
pub mod FewPaths
pub mod Violations
pub mod Covers
pub mod Sources
-- The crates below
pub mod Crates
