pub mod Following
pub mod Alternatives
pub mod Apart
pub mod Deciding
