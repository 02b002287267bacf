-- The laws of the system fields: by types and by topics, what was found and what it means, and what a chain over management addresses cites.
-- Sole is the theorem that two answers of one contract coincide.
pub mod TypeLaws
pub mod SystemLaws
pub mod ChainLaws
pub mod Sole
