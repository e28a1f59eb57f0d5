pub mod Dimensions
pub mod Outcome
pub mod LoopCache
pub mod Steps
pub mod TreeForms
pub mod Heads
pub mod Flat
-- The crates below
pub mod Crates
