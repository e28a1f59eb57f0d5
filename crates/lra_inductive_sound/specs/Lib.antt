-- In the order in which they are to be read.
pub mod Points
pub mod Inductive
pub mod Stores
pub mod RationalPoints
-- The crates below
pub mod Crates
