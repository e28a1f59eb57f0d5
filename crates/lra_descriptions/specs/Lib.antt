-- The lists that are shown of a cone.
pub mod ShownLists
-- Which rows are tight at which others.
pub mod Tightness
-- The crates below
pub mod Crates
