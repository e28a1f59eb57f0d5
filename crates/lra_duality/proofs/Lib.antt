-- The lemmas, from bottom to top.
pub mod PolyhedronLemmas
pub mod InclusionLemmas
pub mod MaximumLemmas
pub mod BetterPoints
pub mod GreatestValues
pub mod Examples
pub mod JoinedLists
mod ResidueLemmas
pub mod SaturationLemmas
pub mod StartLemmas
pub mod KeptCones
pub mod KeptFacets
pub mod FacetLemmas
-- The crates below
pub mod Crates
