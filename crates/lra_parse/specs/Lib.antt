pub mod Heads
-- The crates below
pub mod Crates
