pub mod Causes
pub mod Told
pub mod Disks
pub mod Folders
pub mod Clocks
pub mod Memory
pub mod Laws
