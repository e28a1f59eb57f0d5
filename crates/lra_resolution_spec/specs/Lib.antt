-- In the order in which they are to be read.
pub mod Scope
pub mod NameFaults
pub mod Resolve
pub mod LiveNames
pub mod ShownNames
pub mod LabelTable
pub mod Threads
pub mod EntryPoint
pub mod Refuse
-- The crates below
pub mod Crates
