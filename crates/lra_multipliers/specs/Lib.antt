-- In the order in which they are to be read.
pub mod Symbols
pub mod Multipliers
pub mod Columns
pub mod MultiplierViews
-- The crates below
pub mod Crates
