-- The laws of the rules of a description.
-- Sole is the theorem that two answers of one contract coincide.
pub mod RulesLaws
pub mod Sole
