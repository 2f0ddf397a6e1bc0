pub mod Partitions
pub mod PartChanges
