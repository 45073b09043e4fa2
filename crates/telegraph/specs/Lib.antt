pub mod Ring
pub mod Formed
pub mod Holds
