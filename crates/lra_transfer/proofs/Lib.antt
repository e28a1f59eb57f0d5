mod CompareSteps
pub mod SideSteps
mod ChainSteps
pub mod ChangeSteps
mod GlobalSteps
pub mod OperationWidths
-- The crates below
pub mod Crates
