pub mod Lists
pub mod ListLemmas
pub mod Content
pub mod Reduction
pub mod Antichains
pub mod Joins
pub mod Values
pub mod Heads
pub mod Forms
pub mod Abstraction
pub mod Outcomes
pub mod Changes
pub mod Growth
pub mod Laws
pub mod Single
-- The crates below
pub mod Crates
