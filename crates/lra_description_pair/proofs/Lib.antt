pub mod PartedRays
pub mod GeneratorLists
pub mod ConstraintLists
pub mod TightRows
pub mod OwnRows
mod RowsReduced
pub mod OwnSaturation
pub mod OwnMade
pub mod PairLists
pub mod PairLosses
pub mod GeneratorPairs
pub mod MadeLemmas
pub mod KnownPairs
-- The crates below
pub mod Crates
