pub mod Room
pub mod Words
pub mod Parted
pub mod Spelling
pub mod Reading
pub mod Worked
pub mod Written
