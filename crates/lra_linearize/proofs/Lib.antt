pub mod FormSteps
pub mod CondSizes
pub mod CondSteps
pub mod LinearizationSteps
pub mod GuardThresholdSteps
mod TreeSizes
pub mod TreeViews
mod ThresholdSteps
-- The crates below
pub mod Crates
