-- In the order in which they are to be read.
pub mod Program
pub mod Arrays
pub mod Value
pub mod ProgramViews
pub mod Receivers
pub mod Step
pub mod WrittenVariables
pub mod Run
pub mod Traces
pub mod NextOperation
pub mod Overflow
pub mod Accesses
-- Points, and programs that sources mean.
pub mod Sites
pub mod Assertions
pub mod WellFormed
-- The crates below
pub mod Crates
