pub mod Stated
pub mod Braces
-- The crates below
pub mod Crates
