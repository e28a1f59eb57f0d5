pub mod Agreement
-- The crates below
pub mod Crates
