pub mod Words
pub mod Plans
pub mod Lists
pub mod Server
pub mod Telling
pub mod Laws
