pub mod Bounds
pub mod Abstraction
pub mod Laws
-- The crates below
pub mod Crates
