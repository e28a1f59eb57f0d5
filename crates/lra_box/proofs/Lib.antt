pub mod EndLemmas
pub mod RowLemmas
pub mod BoxLemmas
pub mod BoundLemmas
pub mod SoundLemmas
pub mod StepLemmas
pub mod ExtremeLemmas
pub mod WithinLemmas
pub mod AdmitLemmas
pub mod AssignLemmas
pub mod MonotoneLemmas
pub mod RefineLemmas
pub mod RefineSteps
pub mod TestLemmas
pub mod PartLemmas
pub mod TightenLemmas
-- Worked examples: each table of specs/ on small boxes.
mod BoxExamples
-- The crates below
pub mod Crates
