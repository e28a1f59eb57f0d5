-- Images and preimages of polyhedra, and coordinates that are forgotten.
pub mod Forgetting
-- Preimages.
pub mod FormedPreimages
-- The crates below
pub mod Crates
