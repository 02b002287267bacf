-- The laws of one TLV that is written.
-- They serve the proofs of the functions here, and those of the whole announcement. Sole says that answers coincide.
pub mod TlvLaws
pub mod Sole
