-- The laws of this crate's definitions.
-- A crate above cites them by name.
pub mod OctetsLaws
pub mod Sole
