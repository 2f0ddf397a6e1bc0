pub mod Given
pub mod Images
pub mod Moves
pub mod Past
pub mod SinkLemmas
