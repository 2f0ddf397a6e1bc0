pub mod Between
pub mod Numbers
pub mod Texts
