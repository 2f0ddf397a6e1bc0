pub mod Catalogue
pub mod Changes
pub mod Lawful
pub mod Parts
pub mod Placing
pub mod Seen
