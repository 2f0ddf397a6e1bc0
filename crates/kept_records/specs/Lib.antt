pub mod Tables
pub mod Partitions
