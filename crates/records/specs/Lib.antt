-- The definitions of this crate: where a replay stands and where it goes, then what it does where nothing more is due.
-- Rule numbers are those of docs/RULES.md.
pub mod Place
pub mod Turns
