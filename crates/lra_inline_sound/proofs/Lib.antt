-- What runs of trees are made of, and how long stores are.
pub mod Shapes
pub mod Selecting
pub mod Lengths
-- Runs of programs against runs of trees, from programs to trees and back.
pub mod Landing
pub mod NextOperations
pub mod Split
pub mod Stops
pub mod Does
-- Whole programs.
pub mod Reached
pub mod Performed
pub mod Agreement
pub mod RunSegments
-- Points are distinct.
pub mod DistinctLists
pub mod DistinctSites
-- What a tree asks.
pub mod OncePerPoint
pub mod CheckedOperations
-- Trees of sources.
mod GraphExamples
-- And what they ask.
mod CheckedExamples
-- The crates below
pub mod Crates
