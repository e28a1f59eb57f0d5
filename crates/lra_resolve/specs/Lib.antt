pub mod Mains
-- The crates below
pub mod Crates
