pub mod Asking
pub mod Whys
pub mod Stores
pub mod Workers
