pub mod Patterns
pub mod Tables
-- what `object_name` promises
pub use Rattle.cat_values.specs.Names
