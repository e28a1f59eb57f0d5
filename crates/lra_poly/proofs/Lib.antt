pub mod OutcomeLemmas
pub mod SameLemmas
pub mod PolyLemmas
pub mod RepresentableLemmas
pub mod MetRows
pub mod UnitedLists
pub mod FlaggedMeets
pub mod TakenGenerators
-- The crates below
pub mod Crates
