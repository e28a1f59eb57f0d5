pub mod PointSteps
pub mod EdgeSteps
pub mod ListedSteps
pub mod EndSteps
pub mod HeadSteps
pub mod VerifySteps
pub mod RequiredAnswers
-- The crates below
pub mod Crates
