-- In the order in which they are to be read.
pub mod PointMoves
pub mod SymbolPoints
pub mod InductiveRows
pub mod Each
pub mod PathEvidence
pub mod Certified
pub mod Failures
pub mod Lines
pub mod PathFactViews
pub mod WrittenPaths
-- The crates below
pub mod Crates
