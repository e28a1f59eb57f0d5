pub mod Bounds
pub mod Products
pub mod Sums
pub mod Content
pub mod Refine
pub mod Tables
pub mod Covering
pub mod Ends
pub mod Extremes
pub mod Answers
pub mod Parts
pub mod Abstraction
pub mod Laws
pub mod ExactRows
-- The crates below
pub mod Crates
