-- Worked examples over boxes.
mod LoopExamples
mod NestedExamples
mod CallExamples
mod BoxExamples
mod Judged
mod FitsExamples
mod AccessExamples
-- The crates below
pub mod Crates
