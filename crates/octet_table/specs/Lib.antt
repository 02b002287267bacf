-- The definition of this crate: the table that lent octets mean, and the octets of a table.
-- What a table is stands in numbers and in place/specs.
pub mod Lent
