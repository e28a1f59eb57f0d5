-- What lists have that are made of others.
mod Members
-- Moves and changes keep points.
mod Changes
-- Segments one after the other.
mod KeptSegments
-- The parts of a tree one after the other.
mod Parts
mod Sequences
-- Loops, and the arms of a `switch`.
mod Loops
mod Arms
-- Trees, and programs.
mod Trees
pub mod Programs
-- The two kinds of points.
pub mod Stores
pub mod RationalPoints
-- Worked examples.
mod PointExamples
-- The crates below
pub mod Crates
