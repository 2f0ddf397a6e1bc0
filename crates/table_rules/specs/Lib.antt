pub mod Databases
pub mod Tables
