-- The definitions of this crate: the characters of a port description, and what each ID asks of its string.
-- Neither looks at the TLV around the string.
pub mod Text
pub mod Wants
