pub mod Splits
pub mod Changes
-- The crates below
pub mod Crates
