pub mod Files
pub mod Items
pub mod Events
pub mod Steps
pub mod Rows
