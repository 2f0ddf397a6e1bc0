pub mod Sealing
pub mod Told
