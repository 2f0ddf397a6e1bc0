pub mod Requests
pub mod Replies
pub mod DumpReplies
pub mod Turns
pub mod Session
pub mod Laws
pub mod DumpLaws
