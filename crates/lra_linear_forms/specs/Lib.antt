pub mod Form
-- The crates below
pub mod Crates
