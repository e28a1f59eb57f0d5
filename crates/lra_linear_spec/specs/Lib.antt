-- The definitions, in the order in which they stand on one another.
-- Numbers and rows
pub mod Range
pub mod Vectors
pub mod CheckedArithmetic
pub mod LowestTerms
-- Cones and their descriptions
pub mod Cones
pub mod Echelon
pub mod Canonical
-- Polyhedra as sets of rational points
pub mod Points
pub mod Descriptions
pub mod Kinds
pub mod SetOperations
pub mod RowOrder
pub mod Polyhedra
pub mod Widening
-- Strain: from which numbers an operation may be flagged
pub mod Reduction
pub mod ConeStrain
pub mod Strain
pub mod OperationStrain
-- What values hold
pub mod Representable
