-- The laws of this crate: a place and where it goes, and what its contracts leave open: nothing.
-- What a whole file leads to is said in replay.
pub mod PlaceLaws
pub mod Sole
