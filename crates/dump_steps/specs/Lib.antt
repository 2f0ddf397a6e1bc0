pub mod Ranges
pub mod Open
pub mod Pieces
