pub mod Listed
pub mod BoundsChecks
-- The crates below
pub mod Crates
