pub mod Actions
pub mod Moves
pub mod Parts
pub mod Rank
pub mod Abstraction
pub mod Bounds
pub mod Laws
pub mod Gammas
pub mod Changes
pub mod ExactDomains
pub mod Backward
-- What others may do to a store, and what a value becomes for them.
pub mod Interference
-- The crates below
pub mod Crates
