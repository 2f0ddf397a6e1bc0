pub mod Methods
pub mod Arguments
pub mod Asked
pub mod Exceptions
pub mod Replies
pub mod Refusals
pub mod Shapes
pub mod Plans
