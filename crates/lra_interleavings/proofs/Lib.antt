-- What a step does to the first variables.
pub mod Operations
pub mod MachineSteps
-- From one point to the next, and all threads at once.
pub mod RunSegments
pub mod ThreadRuns
-- Worked examples.
mod InterleavingExamples
