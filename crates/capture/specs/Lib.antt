-- The definitions of this crate: the layout of a capture, then the records that a file has.
-- Rule numbers are those of docs/RULES.md.
pub mod Layout
pub mod Records
