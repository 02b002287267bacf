-- The definition of this crate: the digest of a table with its buffer.
-- It is computed value by value, as twin/ computes it.
pub mod Digest
