pub mod Columns
pub mod Gathering
pub mod Maps
pub mod Names
