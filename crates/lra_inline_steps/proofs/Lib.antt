-- Parts of a program written out: their points, their trees, and where a limit stops them.
pub mod Walking
pub mod Writing
pub mod Stopping
pub mod Handed
-- What the code's values stand for, and where parts stand.
pub mod Shown
pub mod LiveInside
pub mod Standing
pub mod LoneStatements
-- Open places: what opens, and what comes after.
pub mod Items
pub mod ItemRows
mod CaseRows
pub mod FirstSteps
pub mod OpenFrames
-- The crates below
pub mod Crates
