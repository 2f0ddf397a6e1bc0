pub mod Logs
pub mod Messages
pub mod Values
