-- In the order in which they are to be read.
pub mod ShownSets
pub mod MadeSets
pub mod Script
pub mod Views
-- The crates below
pub mod Crates
