-- The definition of this crate: a part of a text, and its octets.
-- Whose text it is, the crates above say.
pub mod Part
