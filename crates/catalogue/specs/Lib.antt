pub mod Rules
pub mod Polls
