pub mod Plays
pub mod Trials
pub mod Shortcuts
