-- The lemmas, from bottom to top.
pub mod TightRows
pub mod Homogeneous
pub mod ThirdRays
pub mod FewCommon
pub mod RayCase
pub mod Reordered
pub mod Cutting
pub mod Taking
pub mod TakenIn
pub mod Stepped
pub mod StrainLemmas
pub mod FlatCones
pub mod WholeSpace
pub mod PositiveCone
pub mod RowsTaken
pub mod TakenBack
-- The crates below
pub mod Crates
