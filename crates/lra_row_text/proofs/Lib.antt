pub mod Lists
pub mod LowestTerms
pub mod Terms
pub mod RowTexts
pub mod Values
pub mod Numbered
-- The crates below
pub mod Crates
