-- In the order in which they are to be read.
pub mod Places
pub mod Literal
pub mod Prefixes
pub mod Read
-- The crates below
pub mod Crates
