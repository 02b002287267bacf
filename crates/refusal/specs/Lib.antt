-- The definition of this crate: the number of each refusal.
-- Which refusal is due is said where something is refused.
pub mod Refusal
