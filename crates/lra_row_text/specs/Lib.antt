-- In the order in which they are to be read.
pub mod Rows
pub mod Part
pub mod Texts
pub mod Lines
pub mod Shown
pub mod Lists
pub mod ShownDescriptions
pub mod Whole
-- The crates below
pub mod Crates
