-- The definition of this crate: whole strings of octets.
-- When two of them are the same stands in octets/specs/Address.antt.
pub mod Whole
