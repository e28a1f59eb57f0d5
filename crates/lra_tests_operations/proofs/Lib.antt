mod Reading
mod Given
pub mod Silent
-- The crates below
pub mod Crates
