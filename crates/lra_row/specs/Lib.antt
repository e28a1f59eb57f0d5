-- Exact numbers and rows: division that rounds down, operations that may pass the range, what the calls on rows make,
-- and that their order ties only equal rows.
pub mod Division
pub mod Operations
pub mod Rows
pub mod RowTies
pub mod Words
-- The crates below
pub mod Crates
