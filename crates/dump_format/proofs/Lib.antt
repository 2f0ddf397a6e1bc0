pub mod Found
pub mod Rows
pub mod Heads
pub mod Whole
pub mod Once
