pub mod Bytes
pub mod CallSteps
pub mod CausesExamples
pub mod Input
pub mod MemoryExamples
