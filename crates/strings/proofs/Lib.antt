-- The laws of the characters of a port description.
-- Sole is the theorem that two answers of one contract coincide.
pub mod TextLaws
pub mod Sole
