-- The definitions of this crate: when a word is a number, and which (J3).
-- They are over words of any length, so that too large is a matter of the answer alone.
pub mod Number
