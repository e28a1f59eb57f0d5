-- In the order in which they are to be read.
pub mod MultiplierRows
pub mod FirstMultipliers
pub mod RowsByKinds
pub mod KeyedRows
-- The crates below
pub mod Crates
