pub mod Judged
pub mod Operands
pub mod Sides
-- The crates below
pub mod Crates
