pub mod Runs
pub mod Burner
