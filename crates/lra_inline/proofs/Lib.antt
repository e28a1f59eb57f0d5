-- Parts of a program written out: their points, their trees, and where a limit stops them.
pub mod Calling
pub mod Totals
-- A program that passes no limit has a tree.
pub mod Existing
-- Open places: what opens, and what comes after.
mod StepsLeft
pub mod Programs
-- The crates below
pub mod Crates
