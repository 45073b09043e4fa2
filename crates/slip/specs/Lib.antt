pub mod Causes
pub mod Trains
pub mod Numbers
pub mod Words
pub mod Form
pub mod Bytes
