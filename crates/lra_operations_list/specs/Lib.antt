pub mod TreeOperations
pub mod Due
-- The crates below
pub mod Crates
