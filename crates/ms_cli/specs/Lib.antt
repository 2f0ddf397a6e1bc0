pub mod Words
pub mod Telling
pub mod Keeping
pub mod Opened
pub mod Dumping
pub mod Trimming
pub mod Local
pub mod Laws
