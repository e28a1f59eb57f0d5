-- Lemmas on rows: chains of reductions, what solutions report, orders; and worked rows.
pub mod Chains
pub mod Solutions
pub mod Extension
pub mod EchelonSteps
pub mod EchelonRows
pub mod Marks
pub mod Irredundant
pub mod Orders
pub mod CanonExamples
pub mod Covers
pub mod MarkedOrder
-- The crates below
pub mod Crates
