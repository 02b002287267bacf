-- The definition of this crate: what compare answers, and what it leaves in the list.
-- Which entries two tables give stands in changes/specs.
pub mod Compare
