-- What gathering a message does.
pub use Rattle.cat_values.specs.Gathering.{Gathers}
