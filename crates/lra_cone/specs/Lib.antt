-- Cones, the limits that they can exceed, and conversions of lists.
pub mod Cones
pub mod Strains
pub mod Flat
pub mod Losses
pub mod Conversions
-- The crates below
pub mod Crates
