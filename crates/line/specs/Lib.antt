pub mod Models
pub mod Making
pub mod Sites
pub mod Wires
