pub mod Numbering
pub mod Deciding
