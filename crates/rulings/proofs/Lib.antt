pub mod Cutting
pub mod Rules
pub mod Sets
pub mod Listing
