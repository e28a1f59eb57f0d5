-- In the order in which they are to be read.
pub mod Literals
pub mod Known
pub mod ResolutionClaims
pub mod Claims
pub mod Stages
pub mod ThreadsStages
-- The crates below
pub mod Crates
