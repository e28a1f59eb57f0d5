-- What the forward analysis hands to going back, and what becomes of flags.
pub mod Forward
pub mod Flags
-- What is shown.
pub mod Showing
pub mod Sound
pub mod Strained
-- What is refused.
pub mod OneAnswer
pub mod Answered
-- The crates below
pub mod Crates
