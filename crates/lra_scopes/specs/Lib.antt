-- What an answer says of the faults of a part.
pub mod Outcome
pub mod Names
pub mod Bindings
pub mod Variables
pub mod Scopes
pub mod Chains
pub mod Calls
pub mod Signatures
-- The crates below
pub mod Crates
