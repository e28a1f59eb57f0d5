mod OpenRows
pub mod RowLeaves
pub mod OpenFrames
mod SelectFrames
pub mod SelectSteps
-- The crates below
pub mod Crates
