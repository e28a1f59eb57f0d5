pub mod Headed
-- The crates below
pub mod Crates
