pub mod Forms
pub mod Conditions
pub mod GuardThresholds
pub mod Thresholds
-- The crates below
pub mod Crates
