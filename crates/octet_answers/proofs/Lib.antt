-- The laws of this crate's definitions, and that two answers of one contract coincide.
-- A function's return cites one of these laws.
pub mod AnswersLaws
pub mod Sole
