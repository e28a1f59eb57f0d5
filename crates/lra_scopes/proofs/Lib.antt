-- Errors that report the first fault.
pub mod FirstFaults
-- Loops over the parts of a chain.
pub mod Loops
-- Chains of operators.
pub mod ChainLaws
pub mod CondLaws
-- Calls.
pub mod CallLaws
-- Names with an index.
pub mod NameLaws
-- Variables with their types.
pub mod VariableLaws
-- Functions by their names.
pub mod SignatureLaws
-- The crates below
pub mod Crates
