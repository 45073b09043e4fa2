pub mod Broken
pub mod Runs
