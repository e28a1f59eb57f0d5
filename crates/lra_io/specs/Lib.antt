pub mod Calls
pub mod Causes
pub mod Memory
pub mod ReadErrors
pub mod Real
