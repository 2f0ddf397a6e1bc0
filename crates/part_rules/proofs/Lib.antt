pub mod Listing
pub mod Seeking
pub mod Adding
pub mod AddingHere
pub mod Renaming
pub mod Holding
pub mod DecidingParts
