-- The laws of whole strings of octets: one turn of each loop, and what others cite.
-- Sole is the theorem that two answers, or two outputs, of one contract coincide.
pub mod WholeLaws
pub mod Sole
