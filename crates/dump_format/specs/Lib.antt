pub mod Harms
pub mod Files
pub mod Dumps
pub mod Laws
