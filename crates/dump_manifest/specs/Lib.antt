pub mod Manifests
pub mod Reading
pub mod Laws
pub mod Pieces
