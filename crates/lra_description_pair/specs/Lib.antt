-- Canonical lists of a list's own kind.
pub mod OwnLists
pub mod KeptRows
pub mod Made
pub mod TriedRows
-- Generators that were added to a cone.
pub mod TakenPoints
-- The crates below
pub mod Crates
