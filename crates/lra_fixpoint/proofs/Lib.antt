mod PassLoops
mod LoopFrames
mod RoundSteps
mod BoxedFrames
mod Tabled
mod Filling
mod Noting
mod ProbeSteps
pub mod Counting
mod Solving
pub mod Covering
pub mod CoveringUnder
pub mod Widths
mod LoopNumbers
-- The written iteration has one solution.
pub mod OneSolution
-- The crates below
pub mod Crates
