pub mod TruthLists
mod Loops
mod TightLists
mod Dimension
mod Faces
pub mod Facets
pub mod SomeMember
pub mod Counting
pub mod RankLaw
mod Validities
mod Places
pub mod WideningLemmas
pub mod TightestLemmas
mod AlikeLemmas
pub mod StayingLemmas
-- The crates below
pub mod Crates
