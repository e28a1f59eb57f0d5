-- In the order in which they are to be read.
pub mod Instrumented
pub mod StepsLeft
pub mod InstrumentKeeps
-- The crates below
pub mod Crates
