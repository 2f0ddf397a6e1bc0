pub mod Polls
pub mod State
pub mod History
pub mod Entries
pub mod Adds
pub mod Scripts
pub mod Walks
pub mod Laws
