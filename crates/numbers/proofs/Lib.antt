-- The laws of this crate's definitions, and that two answers of one contract coincide.
-- The loops cite laws of counting from tally.
pub mod NumbersLaws
pub mod Sole
