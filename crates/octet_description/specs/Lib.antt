-- The definition of this crate: a description as octets, and the description that octets mean.
-- What a description says, over its text, stands in reading/specs.
pub mod Octets
