-- The law of the loop over several parts, and that two answers of one contract coincide.
-- Beside those of tests, the one law that another function needs stands with its proof.
pub mod InsideLaws
pub mod Sole
