-- What a pass among others covers.
pub mod SoundUnder
-- What a step gives, in runs of programs and of their trees.
pub mod TopWrites
pub mod Guarded
pub mod WriteHits
-- Whole programs.
pub mod Writes
pub mod ByTrees
-- The crates below
pub mod Crates
