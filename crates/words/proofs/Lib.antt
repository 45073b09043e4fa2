pub mod Parts
pub mod Figures
pub mod Spelled
pub mod Back
pub mod Steps
pub mod Only
