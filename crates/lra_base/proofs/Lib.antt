-- The most bytes of a source or a script.
pub mod Limit
pub mod Refusing
-- Types of numbers.
pub mod TypeLimits
