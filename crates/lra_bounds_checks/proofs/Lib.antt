mod ListedSteps
mod BoundSteps
mod BoundsSteps
mod ShownSteps
-- The crates below
pub mod Crates
