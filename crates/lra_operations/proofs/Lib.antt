-- Worked examples.
mod NodeViewExamples
mod DistinctExamples
pub mod SizeLaws
pub mod TraceLaws
pub mod TraceUses
pub mod ArmViews
pub mod ArmRows
mod TraceExamples
-- The crates below
pub mod Crates
