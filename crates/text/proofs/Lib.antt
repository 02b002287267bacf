-- What holds of several parts, and of every answer of this crate.
-- The laws of one part are octets' (PartLaws).
pub mod PartsLaws
pub mod Sole
