-- The calls of functions by places, which places a search reaches, and which calls come back.
pub mod Calls
pub mod Search
pub mod Recursion
-- The crates below
pub mod Crates
