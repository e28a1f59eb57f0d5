pub mod Heads
pub mod Begun
