pub mod Spelled
pub mod Turns
pub mod Whole
pub mod Walks
pub mod Joined
