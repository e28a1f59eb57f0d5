-- Lists of constraints and of generators, their comparisons, and membership of a point.
pub mod Comparisons
pub mod Dimensions
pub mod LinearSystems
pub mod FirstPlaces
pub mod Membership
-- The crates below
pub mod Crates
