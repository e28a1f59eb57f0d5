pub mod PassSteps
pub mod PassRows
pub mod Again
pub mod CachedLoops
pub mod AnyInterference
mod Joining
mod Copying
mod LeafSteps
mod FlatRows
mod GivenLoops
-- The crates below
pub mod Crates
