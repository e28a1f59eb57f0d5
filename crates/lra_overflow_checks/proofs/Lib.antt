mod ConditionSteps
pub mod ComputesSteps
pub mod ExpressionSteps
pub mod TableSteps
-- The crates below
pub mod Crates
