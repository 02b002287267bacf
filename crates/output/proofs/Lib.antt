-- The laws of octets put into an output: one behind the other, one turn of a loop, a whole that fits and one that does not.
-- Sole is the theorem that two answers, and two outputs, of one contract coincide.
pub mod OutputLaws
pub mod Sole
