-- The laws of this crate's definitions: octets and tables say the same, both ways.
-- Sole says that two answers of one contract coincide.
pub mod LentLaws
pub mod Sole
