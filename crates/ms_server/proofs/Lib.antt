pub mod Turns
pub mod Chains
pub mod Placing
pub mod Counts
pub mod Joining
