pub mod Waiting
pub mod Lawful
