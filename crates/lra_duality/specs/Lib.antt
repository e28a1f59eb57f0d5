-- Products of both lists of a polyhedron.
pub mod Inclusions
pub mod Maxima
pub mod Residues
-- Which constraints are tight at which generators.
pub mod Saturations
-- Cones of the two lists.
pub mod Incremental
-- The constraints of tests.
pub mod Rows
-- The crates below
pub mod Crates
