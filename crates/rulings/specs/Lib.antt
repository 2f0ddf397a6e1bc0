pub mod Refusals
pub mod Rules
pub mod Decisions
pub mod Names
pub mod Bars
pub mod Meant
pub mod Changes
pub mod Listed
