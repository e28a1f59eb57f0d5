-- The crates below
pub mod Crates
