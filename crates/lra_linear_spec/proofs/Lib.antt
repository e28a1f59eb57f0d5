-- The lemmas, from bottom to top.
-- Whole numbers, lists and rows
pub mod Ring
pub mod Signs
pub mod Membership
pub mod ListPlaces
pub mod Products
pub mod CheckedArithmetic
pub mod LowestTerms
-- Cones
pub mod Combinations
pub mod LinearMaps
pub mod Lines
-- Steps of the double description method
pub mod DoubleDescription
pub mod Step
pub mod Elimination
pub mod Duality
pub mod AllPairs
-- Rays
pub mod Saturation
pub mod ExtremeRays
pub mod AdjacentPairs
-- Echelon forms and canonical descriptions
pub mod Spans
pub mod Pivots
pub mod EchelonExtension
pub mod CanonicalForms
pub mod Redundancy
-- The case of a line
pub mod FlatRows
pub mod LineCase
-- Polyhedra
pub mod Descriptions
pub mod RowOrder
pub mod OneSpelling
pub mod UnitRows
pub mod Polyhedra
pub mod SetOperations
pub mod Widening
-- Worked examples
pub mod PolyhedronExamples
pub mod TimeElapseExamples
pub mod SpellingExamples
pub mod StrainExamples
