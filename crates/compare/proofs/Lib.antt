-- The laws of compare: what each place gives, what each return tells, and what a written list accounts for (LookLaws).
-- Sole says that the contract allows one answer and one list.
pub mod GivesLaws
pub mod CompareLaws
pub mod LookLaws
pub mod Sole
