-- The definition of this crate: what is written of what is said.
-- Each TLV by itself stands in tlvs/specs.
pub mod Encode
