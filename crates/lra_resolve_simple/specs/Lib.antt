pub mod Labelling
pub mod Statements
pub mod LoopHeads
pub mod Resolved
pub mod Cases
-- The crates below
pub mod Crates
