-- In the order in which they are to be read.
pub mod AnalysisResults
pub mod Views
pub mod Shown
pub mod Polyhedra
pub mod Sets
pub mod Canonical
-- The crates below
pub mod Crates
