pub mod MinimumLemmas
pub mod MissedLists
pub mod RelationLemmas
pub mod DimensionLemmas
pub mod ShapeLemmas
pub mod TightenedRows
pub mod TightenedExits
pub mod MovedSets
pub mod FoldedSets
pub mod TakenRows
pub mod JoinedSets
pub mod RelatedSets
pub mod ExpandedSets
pub mod Sublists
pub mod SimplifiedRows
pub mod TriedRows
pub mod BoxLemmas
pub mod PartLemmas
mod Examples
-- The crates below
pub mod Crates
