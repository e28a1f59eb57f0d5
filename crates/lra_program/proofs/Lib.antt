-- Worked examples: each definition of specs/ on programs and values whose answers are known.
mod ValueExamples
pub mod RunExamples
pub mod TraceLaws
pub mod SwitchExamples
mod ArrayExamples
mod TraceExamples
mod WellFormedExamples
mod ProgramViewExamples
mod TypeExamples
pub mod GivenArguments
pub mod TypeLaws
pub mod StepLaws
pub mod AccessLaws
pub mod NextOperationLaws
-- The crates below
pub mod Crates
