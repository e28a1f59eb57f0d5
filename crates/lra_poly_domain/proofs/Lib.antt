mod ListLemmas
mod OutcomeLemmas
mod BoundLemmas
mod BackLemmas
mod RepresentableLemmas
mod ChangeLemmas
pub mod PartLemmas
mod UniverseLemmas
mod StrikeLemmas
pub mod InsideLemmas
mod GrowthLemmas
pub mod HeadExamples
-- The crates below
pub mod Crates
