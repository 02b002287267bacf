-- The laws of this crate's definitions, and that two answers of one contract coincide.
-- Examples has some words as they are read.
pub mod NumberLaws
pub mod Examples
pub mod Sole
