pub mod WalkedBack
pub mod EachSteps
pub mod NeverUnshown
pub mod FarkasLaws
pub mod FoundPaths
pub mod PathSteps
pub mod EdgeFound
pub mod TextSteps
pub mod ClaimSteps
pub mod CertifiedSteps
pub mod ReadySegments
-- The crates below
pub mod Crates
