pub mod Stack
pub mod StepsLeft
-- The crates below
pub mod Crates
