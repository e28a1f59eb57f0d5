pub mod Lone
pub mod Viewed
pub mod Turning
pub mod Unfolded
pub mod Typed
pub mod Called
