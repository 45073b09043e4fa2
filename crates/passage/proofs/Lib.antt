pub mod Among
pub mod Posting
pub mod Receiving
pub mod Trying
