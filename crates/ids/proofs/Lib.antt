-- The laws of an ID.
-- Sole is the theorem that two answers of one contract coincide.
pub mod IdLaws
pub mod Sole
