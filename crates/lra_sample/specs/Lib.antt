-- In the order in which they are to be read: what is drawn, the source made of it, what is reported about its report,
-- which sources are accepted.
pub mod Draws
pub mod Sample
pub mod Summary
pub mod Accepted
-- The crates below
pub mod Crates
