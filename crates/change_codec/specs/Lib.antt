pub mod Forms
pub mod Tags
pub mod Records
pub mod Whole
