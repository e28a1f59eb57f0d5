-- Operations on closed polyhedra.
pub mod Equality
pub mod Outcomes
pub mod Restricted
pub mod United
pub mod StrainsAfter
-- The crates below
pub mod Crates
