pub mod Listening
pub mod Memory
