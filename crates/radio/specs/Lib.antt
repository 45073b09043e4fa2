pub mod Draws
pub mod Holds
