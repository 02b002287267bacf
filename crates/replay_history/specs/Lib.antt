-- The definitions of this crate: the history of the calls that a capture makes.
-- What that history says is history/specs.
pub mod Events
