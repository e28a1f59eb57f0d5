pub mod Ratio
pub mod Facts
pub mod Division
pub mod CheckedRows
pub mod Words
pub mod Narrow
pub mod RowDivisors
pub mod OrderLemmas
pub mod FirstPassing
pub mod RowLemmas
pub mod Combination
pub mod Pivots
pub mod RowExamples
-- The crates below
pub mod Crates
