-- The parts of a step that takes a row in, adjacent pairs of rays, and what passes a limit.
pub mod Steps
pub mod Pairs
pub mod Strains
pub mod Thirds
pub mod Below
-- The crates below
pub mod Crates
