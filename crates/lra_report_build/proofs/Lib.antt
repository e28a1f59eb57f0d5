-- Points and verdicts.
pub mod Points
pub mod Verdicts
pub mod Reports
pub mod RowsHold
pub mod BoxShown
pub mod OctShown
pub mod RowsSpelled
pub mod SamePoints
pub mod PolyhedronShown
pub mod PolyhedronParts
mod CanonicalLemmas
pub mod StateSteps
pub mod SetShown
-- The crates below
pub mod Crates
