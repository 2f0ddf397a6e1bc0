pub mod Asking
pub mod DecidingTables
pub mod DecidingDatabases
