-- The definition of this crate: each TLV that the writer writes, and its octets.
-- In which order they stand is said in announcement/specs/Encode.antt.
pub mod Tlvs
