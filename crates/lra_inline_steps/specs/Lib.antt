-- In the order in which they are to be read.
pub mod Limits
pub mod Building
pub mod Inlining
pub mod Stack
pub mod Steps
-- The crates below
pub mod Crates
