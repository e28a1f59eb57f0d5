-- The tree of the program with two branches.
mod SampleTree
-- The tree whose steps are judged.
mod StepsTree
-- The crates below
pub mod Crates
