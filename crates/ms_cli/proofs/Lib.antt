pub mod Reading
pub mod Lines
pub mod Keeps
pub mod Refusing
pub mod Opened
pub mod Counting
pub mod Statuses
