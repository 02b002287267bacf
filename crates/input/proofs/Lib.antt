-- The laws of a number in a stored file: one octet more, and the end.
-- Sole is the theorem that two answers of one contract coincide.
pub mod StoredLaws
pub mod Sole
