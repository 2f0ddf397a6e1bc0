pub mod Escaping
pub mod Undoing
pub mod Parts
pub mod Joining
pub mod Cutting
pub mod RoundTrip
