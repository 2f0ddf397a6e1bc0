pub mod Opening
pub mod Keeping
pub mod Stores
pub mod Inside
pub mod Laws
