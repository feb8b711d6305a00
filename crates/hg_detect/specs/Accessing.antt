-- The event of an access.
pub use Rattle.hg_model.specs.Accessing.{access_event, access_named}
