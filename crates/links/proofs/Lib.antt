-- The laws of link information: what a well formed one has, addresses as numbers, and addresses in a row.
-- Sole is the theorem that two answers of one contract coincide.
pub mod LinkLaws
pub mod NumberLaws
pub mod RowLaws
pub mod Sole
