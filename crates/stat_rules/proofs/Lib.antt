pub mod Finding
pub mod Asking
pub mod Passing
pub mod DecidingStats
