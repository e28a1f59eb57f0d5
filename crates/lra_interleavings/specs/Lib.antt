-- In the order in which they are to be read.
pub mod Writes
pub mod Interleavings
pub mod ThreadModular
-- The crates below
pub mod Crates
