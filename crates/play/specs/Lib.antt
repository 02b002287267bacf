-- The definitions of this crate: what one read does to two replays, what playing a whole file does, and what two looks are answered with.
-- What the replay of a file is stands in replay/specs, and what compare answers in compare/specs.
pub mod Numbers
pub mod Reading
pub mod Looks
