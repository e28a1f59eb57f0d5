-- The points of the polyhedron of all multipliers, claims that have some, and how its rows are listed, ordered and
-- converted.
pub mod ShownPoints
pub mod ShownClaims
pub mod ListedRows
pub mod KeyedRows
pub mod FirstPoints
pub mod FarkasExamples
-- The crates below
pub mod Crates
