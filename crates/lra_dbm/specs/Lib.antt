pub mod Entry
pub mod Tight
pub mod Cells
pub mod Steps
pub mod Closing
pub mod Pointwise
pub mod Closure
pub mod Clearing
pub mod Shifting
pub mod Answers
-- The crates below
pub mod Crates
