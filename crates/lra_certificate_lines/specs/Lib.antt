-- In the order in which they are to be read.
pub mod Views
pub mod LineViews
pub mod MultiplierLineViews
pub mod SymbolicViews
pub mod PathCheckViews
-- The crates below
pub mod Crates
