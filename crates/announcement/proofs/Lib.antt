-- The laws of what is written: the octets of the whole, and of the fields that may be absent.
-- They serve the proofs of the functions. Sole says that two answers of one contract coincide.
pub mod EncodeLaws
pub mod PutLaws
pub mod Sole
