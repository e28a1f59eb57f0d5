-- What is found with drops says of what is defined.
pub mod Moved
pub mod Transfer
-- Steps of going back: over paths, of what is joined, of heads, of rounds, of meets, of seeds, and of the whole.
pub mod PathSteps
pub mod JoinSteps
pub mod HeadSteps
pub mod RoundSteps
pub mod MeetSteps
pub mod SeedSteps
pub mod BackSteps
pub mod WideSteps
pub mod SettledSteps
-- The crates below
pub mod Crates
