pub mod Sums
pub mod ListLemmas
pub mod MappedSets
pub mod PushedLists
pub mod Assigning
pub mod LossLemmas
pub mod FormedLists
pub mod MovedForms
pub mod TakenBack
pub mod MovedLists
pub mod MovingLosses
-- The crates below
pub mod Crates
