-- Closed polyhedra as an abstract domain.
pub mod Content
pub mod Sets
pub mod Heads
pub mod Bounded
pub mod Abstraction
pub mod Growth
pub mod Covering
pub mod Reach
pub mod Rounding
pub mod Backward
pub mod Laws
-- The crates below
pub mod Crates
