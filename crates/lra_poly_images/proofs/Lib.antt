pub mod ForgetLemmas
pub mod AssignedSets
pub mod GivenUp
pub mod SolvedImages
pub mod SubstitutedSets
pub mod MovedPairs
pub mod MovedFacets
pub mod MovedPolyhedra
pub mod BackImages
pub mod KeptLists
pub mod ShortenedSets
pub mod EmbeddedSets
pub mod ElapsedSets
-- The crates below
pub mod Crates
