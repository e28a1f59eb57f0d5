-- In the order in which they are to be read.
pub mod Tree
pub mod Traces
pub mod Inlined
pub mod Agree
pub mod TracesAgree
pub mod CheckedOperations
pub mod TreeViews
pub mod Sizes
pub mod Parts
-- The crates below
pub mod Crates
