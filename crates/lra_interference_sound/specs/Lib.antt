-- What a pass among others must guarantee to runs.
pub mod CoversUnder
pub mod WritesAgree
-- The crates below
pub mod Crates
