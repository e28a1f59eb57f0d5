pub mod Sample
pub mod Steps
-- The crates below
pub mod Crates
