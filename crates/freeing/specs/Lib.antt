-- The definitions of this crate, in the order in which they are read: what happens to a place, and what each call gives.
-- What a place is stands in place/specs, and when a table is fit in fitness/specs.
pub mod Changes
pub mod Calls
