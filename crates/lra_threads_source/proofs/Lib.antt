pub mod PointNumbers
pub mod InTurn
pub mod Following
pub mod Pushing
pub mod Readying
pub mod OpenedBelow
pub mod FlaggedPoints
pub mod Handed
pub mod Sound
pub mod Strained
pub mod Answered
-- The crates below
pub mod Crates
